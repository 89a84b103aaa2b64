-- What the rows over the records of demand 3 and over whole calls share: returned numbers and buffers, and the layerings of two nets.
-- Assumes nothing.
use Rattle.std.specs.Prelude.{◌≡◌, refl, List, [], ◌∷◌, ◌++◌, ℕ, length, drop, replicate}
use Rattle.std.proofs.Common.{ap₂, ◌∙◌, subst}
use Rattle.model.specs.Calls.{Returned, Buffers, stretches, Planned, Printed}
use Rattle.model.specs.Demand3.{choice_at}
use Rattle.model.specs.Job.{Job}
use Rattle.model.specs.Layering.{IsChoice, IsLayering}
use Rattle.model.specs.Overflow.{total_overflow, max_overflow}
use Rattle.model.specs.Plan.{plan, answered, total_vias}
use Rattle.model.specs.Print.{printed}
use Rattle.model.specs.Score.{order}

-- buffers with these working numbers, the order of the job's scores, and this answer list
abbrev pub ordered : Job → List ℕ → List ℕ → Buffers
ordered j working answer = record { working = working; order = order j; answer = answer }

-- ---- what a call returns and leaves, written out buffer by buffer

-- "A refused one returns number, line and zeros; order list, answer list and print buffer are unchanged"; "After every call, refused or not, the
-- whole buffer is zero."
abbrev pub refused_with : ℕ → ℕ → Returned
refused_with n l = record { number = n; line = l; vias = 0; total = 0; maximum = 0 }

abbrev pub zeroed : Buffers → Buffers
zeroed b = record { working = replicate (length b.working) 0; order = b.order; answer = b.answer }

abbrev pub refused_plan : ℕ → ℕ → Buffers → Planned
refused_plan n l b = record { returned = refused_with n l; buffers = zeroed b }

abbrev pub refused_print : ℕ → ℕ → Buffers → List ℕ → Printed
refused_print n l b out = record { returned = refused_with n l; length = 0; buffers = zeroed b; print = out }

-- "An accepted job returns 0, 0, total vias, TO and MO of the layered plan"
abbrev pub accepted_with : Job → Returned
accepted_with j = record {
  number = 0;
  line = 0;
  vias = total_vias j (plan j);
  total = total_overflow j (plan j);
  maximum = max_overflow j (plan j);
}

-- the order list and the answer list from their start on; what lies beyond stays
abbrev pub filled : Job → Buffers → Buffers
filled j b = record {
  working = replicate (length b.working) 0;
  order = order j ++ drop (length (order j)) b.order;
  answer = stretches (answered j.nets (plan j)) ++ drop (length (stretches (answered j.nets (plan j)))) b.answer;
}

abbrev pub accepted_plan : Job → Buffers → Planned
accepted_plan j b = record { returned = accepted_with j; buffers = filled j b }

-- "Print adds the length of its text", "The text fills its start."
abbrev pub print_of : Job → List ℕ
print_of j = printed j (order j) (plan j)

abbrev pub accepted_print : Job → Buffers → List ℕ → Printed
accepted_print j b out = record {
  returned = accepted_with j;
  length = length (print_of j);
  buffers = filled j b;
  print = print_of j ++ drop (length (print_of j)) out;
}

-- ---- layerings of two nets

-- a layering of two nets is its two choices
pub two-are : (layers : ℕ → List ℕ) (n m : List ℕ) (ys : List (List ℕ)) → IsLayering layers (n ∷ m ∷ []) ys → ys ≡ choice_at ys 0 ∷ choice_at ys 1 ∷ []
two-are layers n m [] h = absurd h
two-are layers n m (y ∷ []) h = absurd h.1
two-are layers n m (y ∷ z ∷ []) h = refl
two-are layers n m (y ∷ z ∷ w ∷ ys) h = absurd h.1.1

pub two-with : (layers : ℕ → List ℕ) (n m y z : List ℕ) (ys : List (List ℕ)) → IsLayering layers (n ∷ m ∷ []) ys → choice_at ys 0 ≡ y → choice_at ys 1 ≡ z
    → ys ≡ y ∷ z ∷ []
two-with layers n m y z ys h a b = two-are layers n m ys h ∙ ap₂ {C = List (List ℕ)} (λ u v. u ∷ v ∷ []) a b

-- the first net has a choice
pub first_is : (layers : ℕ → List ℕ) (n m y : List ℕ) (ys : List (List ℕ)) → IsLayering layers (n ∷ m ∷ []) ys → choice_at ys 0 ≡ y → IsChoice layers n y
first_is layers n m y [] h a = absurd h
first_is layers n m y (x ∷ ys) h a = subst (λ (t : List ℕ). IsChoice layers n t) a h.0
