use Rattle.std.proofs.Common.{◌≡◌, ◌/◌, ◌<◌, None, ap, arith, subst, sym, ◌∙◌}
use Rattle.xp_words.specs.Machine.{Machine}
use Rattle.frame_claims.proofs.Finding.{block_aligned, found_some, looks_came, looks_nothing, looks_then}
use Rattle.frame_claims.specs.Found.{PassBy}
use Rattle.frame_claims.proofs.Listing.{up_none}
use Rattle.frame_claims.proofs.Trying.{first_next, first_none, first_some}
use Rattle.frame_claims.proofs.Refusing.{all_seen, one_more, when_none}
use Rattle.frame_claims.proofs.choosing.by_frames.Goals as goal

pub loop-block-init : goal.loop-block-init
loop-block-init g c = record { looks = looks_nothing (g.P.Port.value c.args.port.now); visits = up_none (λ block us. PassBy c.args.size block None us) 0 (g.P.Port.value c.args.port.now); taken = λ none. tt }

pub returns-then-is_some-clause-looks : goal.returns-then-is_some-clause-looks
returns-then-is_some-clause-looks g c =
    looks_then (g.P.Port.value c.args.port.now) (g.P.Port.value c.loop-block.port) (g.P.Port.value c.try_block-chosen.new.port) c.loop-block.invariant.looks c.try_block-chosen.ensures.looks

pub loop-block-preserved : goal.loop-block-preserved
loop-block-preserved g c =
    let v = g.P.Port.value c.args.port.now in
    let u = g.P.Port.value c.loop-block.port in
    let w = g.P.Port.value c.try_block-chosen.new.port in
    let so = c.loop-block.invariant in
    record {
      looks = looks_then v u w so.looks c.try_block-chosen.ensures.looks;
      visits = first_next (PassBy c.args.size) v u w c.loop-block.block c.try_block-chosen.result c.try_block-chosen.new.stamps.items (sym c.if-is_some.ensures) so.visits c.try_block-chosen.ensures.visits;
      taken = λ none. one_more v u w c.args.size c.loop-block.block c.requires.some so.looks (looks_came u w c.try_block-chosen.ensures.looks) none
          (when_none c.try_block-chosen.result _ (sym c.if-is_some.ensures) c.try_block-chosen.ensures.none) (so.taken none);
    }

pub returns-then-is_some-clause-found : goal.returns-then-is_some-clause-found
returns-then-is_some-clause-found g c =
    found_some (g.P.Port.value c.args.port.now) (g.P.Port.value c.loop-block.port) (g.P.Port.value c.try_block-chosen.new.port) c.args.size c.try_block-chosen.new.stamps.items c.try_block-chosen.result c.loop-block.invariant.looks c.try_block-chosen.ensures.found

pub try_block-chosen-requires-clause-aligned : goal.try_block-chosen-requires-clause-aligned
try_block-chosen-requires-clause-aligned g c = block_aligned c.loop-block.block c.args.size c.requires.some

pub returns-clause-none : goal.returns-clause-none
returns-clause-none g c =
    let end = c.loop-block-test.false in
    let low = c.loop-block.auto.block-end in
    all_seen (g.P.Port.value c.args.port.now) (g.P.Port.value c.loop-block.port) c.args.size c.loop-block.block c.behind-port.inside.frames c.requires.some (ap (λ (n : Machine). n.frames) (c.behind-port.view_is ∙ c.layout.ensures.layout)) (omega (arith, end, low)) c.loop-block.invariant.taken

pub returns-then-is_some-clause-visits : goal.returns-then-is_some-clause-visits
returns-then-is_some-clause-visits g c =
    let v = g.P.Port.value c.args.port.now in
    let u = g.P.Port.value c.loop-block.port in
    let w = g.P.Port.value c.try_block-chosen.new.port in
    first_some (PassBy c.args.size) v u w _ c.loop-block.block c.try_block-chosen.result c.try_block-chosen.new.stamps.items (subst (λ m. c.loop-block.block < m / c.args.size) (ap (λ (n : Machine). n.frames) (c.behind-port.view_is ∙ c.layout.ensures.layout)) c.loop-block-test.true) (sym c.if-is_some.ensures) c.loop-block.invariant.visits c.try_block-chosen.ensures.visits

pub returns-clause-visits : goal.returns-clause-visits
returns-clause-visits g c =
    let end = c.loop-block-test.false in
    let low = c.loop-block.auto.block-end in
    first_none (PassBy c.args.size) (g.P.Port.value c.args.port.now) (g.P.Port.value c.loop-block.port) _ c.loop-block.block (subst (λ m. c.loop-block.block ≡ m / c.args.size) (ap (λ (n : Machine). n.frames) (c.behind-port.view_is ∙ c.layout.ensures.layout)) (omega (arith, end, low))) c.loop-block.invariant.visits
