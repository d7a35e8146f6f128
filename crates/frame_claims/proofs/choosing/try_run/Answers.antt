use Rattle.std.proofs.Common.{◌+◌, ◌*◌, ◌<◌, ◌≤◌, None, arith, false, refl, subst, sym, true}
use Rattle.step_maker.specs.Visits.{Does}
use Rattle.step_maker.proofs.Coming.{came_post}
use Rattle.xp_board.specs.Told.{Post}
use Rattle.frame_claims.specs.Found.{FullBy, block_of}
use Rattle.frame_claims.proofs.Trying.{not_tried, run_by}
use Rattle.frame_claims.proofs.Finding.{block_aligned, block_fits, found_some, looks_came, looks_then, may_look, run_fits}
use Rattle.frame_claims.proofs.choosing.try_run.Goals as goal

-- ---- the numbers fit

pub overflow_mul-block : goal.overflow_mul-block
overflow_mul-block g c =
    let below = run_fits c.args.block _ c.args.words c.requires.some c.requires.block in
    let few = c.requires.may.machine.few_frames in
    record { fits = omega (arith, below, few) }

pub are_full-requires : goal.are_full-requires
are_full-requires g c = record { inside = run_fits c.args.block _ c.args.words c.requires.some c.requires.block; may = c.requires.may }

pub overflow_mul-words : goal.overflow_mul-words
overflow_mul-words g c = let few = c.requires.few in record { fits = omega (arith, few) }

pub overflow_mul-block-2 : goal.overflow_mul-block-2
overflow_mul-block-2 g c =
    let some = c.requires.some in
    let below = block_fits c.args.block _ (64 * c.args.words) (omega (arith, some)) c.requires.block in
    let few = c.requires.may.machine.few_frames in
    record { fits = omega (arith, below, few) }

pub overflow_mul-words-2 : goal.overflow_mul-words-2
overflow_mul-words-2 g c = let few = c.requires.few in record { fits = omega (arith, few) }

pub returns-clause-looks : goal.returns-clause-looks
returns-clause-looks g c = looks_then (g.P.Port.value c.args.port.now) (g.P.Port.value c.are_full.new.port) (g.P.Port.value c.try_block.new.port) c.are_full.ensures.looks c.try_block.ensures.looks

pub returns-clause-found : goal.returns-clause-found
returns-clause-found g c =
    found_some (g.P.Port.value c.args.port.now) (g.P.Port.value c.are_full.new.port) (g.P.Port.value c.try_block.new.port) (64 * c.args.words) c.try_block.new.stamps.items c.try_block.result c.are_full.ensures.looks c.try_block.ensures.found

pub try_block-requires : goal.try_block-requires
try_block-requires g c =
    let v = g.P.Port.value c.args.port.now in
    let u = g.P.Port.value c.are_full.new.port in
    let few = c.requires.few in
    let one = c.requires.some in
    let some : 0 < 64 * c.args.words = omega (arith, one) in
    let all = block_fits c.args.block _ (64 * c.args.words) some c.requires.block in
    record {
      some = some;
      few = omega (arith, few);
      inside = subst (λ (q : Post). c.args.block * (64 * c.args.words) + 64 * c.args.words ≤ q.machine.frames) (sym (came_post v u (looks_came v u c.are_full.ensures.looks))) all;
      aligned = block_aligned c.args.block (64 * c.args.words) some;
      may = may_look v u c.are_full.ensures.looks c.requires.may;
    }

pub returns-clause-visits : goal.returns-clause-visits
returns-clause-visits g c =
    let v = g.P.Port.value c.args.port.now in
    let u = g.P.Port.value c.are_full.new.port in
    run_by v u (g.P.Port.value c.try_block.new.port) c.args.words c.args.block true (block_of c.try_block.result c.try_block.new.stamps.items)
    (subst (λ b. Does v u (λ vs. FullBy (c.args.block * c.args.words) c.args.words b vs)) c.if-not-are_full.false c.are_full.ensures.visits) c.try_block.ensures.visits

pub returns-then-not-are_full-clause-looks : goal.returns-then-not-are_full-clause-looks
returns-then-not-are_full-clause-looks g c = c.are_full.ensures.looks

pub returns-then-not-are_full-clause-visits : goal.returns-then-not-are_full-clause-visits
returns-then-not-are_full-clause-visits g c =
    let v = g.P.Port.value c.args.port.now in
    let u = g.P.Port.value c.are_full.new.port in
    run_by v u u c.args.words c.args.block false None
    (subst (λ b. Does v u (λ vs. FullBy (c.args.block * c.args.words) c.args.words b vs)) c.if-not-are_full.true c.are_full.ensures.visits) (not_tried u false (64 * c.args.words) (c.args.block * (64 * c.args.words)) refl)
