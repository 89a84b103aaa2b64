-- `read_again` meets its contract.
-- Assumes nothing.
use mathlib.Core.Bool.{Bool}
use mathlib.Core.Path.{subst}
use Rattle.turn.specs.Turn.{turn_net, Before, BeforeSome}
use Rattle.turn.proofs.Reading.{net-there, lines_of, again-whole}
use Rattle.turn.proofs.read_again.Goals as goal

pub read_cut-requires : goal.read_cut-requires
read_cut-requires c =
    let x = c.args in record { g_in_bounds = c.requires.g_in_bounds; before_some = subst (λ (d : Bool). BeforeSome x.s.now x.net.pins x.net.edges d x.g x.net.stamp x.w.now) c.if-net.true c.requires.before_some }

pub returns-then-net : goal.returns-then-net
returns-then-net c =
    let x = c.args in
    λ u b. c.read_cut.ensures u (subst (λ (d : Bool). Before x.s.now x.net.pins x.net.edges d x.g x.net.stamp x.w.now u) c.if-net.true b)

pub read_net-again-requires : goal.read_net-again-requires
read_net-again-requires c =
    let x = c.args in
    let k = c.requires.before_some in record { g_in_bounds = (c.requires.g_in_bounds.0, c.requires.g_in_bounds.1, k.before.older); net_there = net-there x.s.now x.net.pins x.net.edges x.net.dropped x.g c.args.g.shaped x.net.stamp x.w.now k.turn k.before }

pub returns : goal.returns
returns c =
    let x = c.args in
    λ u b.
    again-whole x.s.now x.net.pins x.net.edges x.net.dropped x.g c.args.g.shaped x.net.stamp x.w.now u b c.read_net-again.new.w c.read_net-again.result
    (c.read_net-again.ensures u.job (turn_net u) (lines_of x.s.now x.net.pins x.net.edges x.net.dropped x.g c.args.g.shaped x.net.stamp x.w.now u b) (b.whole c.if-net.false))
    c.if-net.false
