-- A text written into a lent buffer from a writer's place on: one equation on the whole buffer.
-- Assumes nothing.
use Rattle.std.specs.Prelude.{List, [], ◌∷◌, ◌++◌, ◌≡◌, refl, ℕ, suc, ◌+◌, ◌≤◌, length, drop, set}
use Rattle.std.proofs.Common.{sym, ap, ap₂, ◌∙◌, add-zero, arith, length-append}
use Rattle.std.proofs.lemmas.List.Edits.{sets, sets-eq}
use Rattle.std.proofs.Math.Seq.{length-sets}
use Rattle.std.proofs.lemmas.List.{set_comm}
use Rattle.model.specs.Calls.{overwrite}
use Rattle.put.specs.declared.Writer.{Writer}

-- a key with its `=`, a text, byte 10
abbrev pub line : List ℕ → List ℕ → List ℕ
line key text = key ++ text ++ (10 ∷ [])

-- from the place of w on there is room for the text
abbrev pub Room : Writer → List ℕ → Type 0
Room w text = w.at + length text ≤ length w.buf.now

-- v is w once the text is written: it stands from the place of w on, the place of v is behind it, and the buffer is the one that was lent
pub record Wrote (w : Writer) (text : List ℕ) (v : Writer) : Type 0 where
  pub buffer : v.buf.now ≡ sets w.buf.now w.at text
  pub next : v.at ≡ w.at + length text
  pub lent : v.buf.ghost_name ≡ w.buf.ghost_name

-- Of a text that w is to write, a part is written, which makes v of w; the rest, written by v, gives the whole.
pub record Left (w : Writer) (text : List ℕ) (v : Writer) (rest : List ℕ) : Type 0 where
  pub buffer : sets w.buf.now w.at text ≡ sets v.buf.now v.at rest
  pub next : w.at + length text ≡ v.at + length rest
  pub long : length v.buf.now ≡ length w.buf.now
  pub lent : v.buf.ghost_name ≡ w.buf.ghost_name

-- ---- stores one after another

pub sets_then : (w : List ℕ) (a : ℕ) (x y : List ℕ) → sets (sets w a x) (a + length x) y ≡ sets w a (x ++ y)
sets_then w a [] y = rw add-zero
sets_then w a (v ∷ x) y =
    let e : a + suc (length x) ≡ suc a + length x = omega arith in
    ap (λ (k : ℕ). sets (sets (set w a v) (suc a) x) k y) e ∙ sets_then (set w a v) (suc a) x y

-- the last store first
pub sets_last : (w : List ℕ) (a : ℕ) (x : List ℕ) (v : ℕ) → sets w a (x ++ (v ∷ [])) ≡ sets (set w (a + length x) v) a x
sets_last w a [] v = rw add-zero
sets_last w a (u ∷ x) v =
    let e : suc a + length x ≡ a + suc (length x) = omega arith in
    sets_last (set w a u) (suc a) x v
    ∙ ap (λ (k : ℕ). sets (set (set w a u) k v) (suc a) x) e
    ∙ ap (λ (l : List ℕ). sets l (suc a) x) (set_comm w a (a + suc (length x)) u v (λ h. omega arith))

-- a text from place 0 on is the start of the buffer, and what lies beyond it stays
pub sets-overwrite : (w text : List ℕ) → length text ≤ length w → sets w 0 text ≡ overwrite text w
sets-overwrite w text h = let e : 0 + length text ≡ length text = omega arith in sets-eq text w 0 (omega arith) ∙ ap (λ (k : ℕ). text ++ drop k w) e

-- ---- texts one after another

module _ {w u : Writer} {x : List ℕ} (one : Wrote w x u) where
  pub wrote-long : length u.buf.now ≡ length w.buf.now
  wrote-long = ap length one.buffer ∙ length-sets w.buf.now w.at x

  pub wrote_then : {v : Writer} {y : List ℕ} → Wrote u y v → Wrote w (x ++ y) v
  wrote_then {v} {y} two = record {
    buffer = two.buffer ∙ ap₂ (λ (l : List ℕ) (k : ℕ). sets l k y) one.buffer one.next ∙ sets_then w.buf.now w.at x y;
    next = omega (arith, two.next, one.next, length-append x y);
    lent = two.lent ∙ one.lent;
  }

  pub wrote_as : {y : List ℕ} → x ≡ y → Wrote w y u
  wrote_as e = rw e at one

-- nothing is written
pub wrote-none : (w : Writer) → Wrote w [] w
wrote-none w = record { buffer = refl; next = omega arith; lent = refl }

-- a text from place 0 on, in a buffer that holds `b`
pub from_start : {w v : Writer} {text b : List ℕ} → w.at ≡ 0 → w.buf.now ≡ b → Wrote w text v → (v.buf.now ≡ sets b 0 text) × (v.at ≡ length text)
from_start {text} start holds one =
    (one.buffer ∙ ap₂ (λ (l : List ℕ) (k : ℕ). sets l k text) holds start, omega (arith, one.next, start))

-- the room for each of three texts one after another
module _ (w : Writer) (x y z : List ℕ) (h : Room w (x ++ y ++ z)) where
  pub room-one : Room w x
  room-one = omega (arith, length-append x y, length-append (x ++ y) z)

  module _ {u : Writer} (one : Wrote w x u) where
    pub room-two : Room u y
    room-two = omega (arith, one.next, wrote-long one, length-append x y, length-append (x ++ y) z)

    pub room-three : {v : Writer} → Wrote u y v → Room v z
    room-three two = omega (arith, one.next, wrote-long one, two.next, wrote-long two, length-append x y, length-append (x ++ y) z)

-- ---- a text part by part

pub left-start : (w : Writer) (text : List ℕ) → Left w text w text
left-start w text = record { buffer = refl; next = refl; long = refl; lent = refl }

module _ {w u : Writer} {text : List ℕ} where
  pub left-then : {v : Writer} {x y : List ℕ} → Left w text u (x ++ y) → Wrote u x v → Left w text v y
  left-then {v} {x} {y} l one = record {
    buffer = l.buffer ∙ sym (ap₂ (λ (l : List ℕ) (k : ℕ). sets l k y) one.buffer one.next ∙ sets_then u.buf.now u.at x y);
    next = omega (arith, l.next, one.next, length-append x y);
    long = wrote-long one ∙ l.long;
    lent = one.lent ∙ l.lent;
  }

  pub left-done : Left w text u [] → Wrote w text u
  left-done l = record { buffer = sym l.buffer; next = omega (arith, l.next); lent = l.lent }

  pub left_as : {x y : List ℕ} → x ≡ y → Left w text u x → Left w text u y
  left_as e l = rw e at l

  -- what is left has room
  pub left-room : {rest : List ℕ} → Left w text u rest → Room w text → Room u rest
  left-room l h = omega (arith, l.next, l.long)
