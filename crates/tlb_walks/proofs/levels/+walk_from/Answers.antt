use Rattle.std.proofs.Common.{rules, ◌<◌, ◌-◌, ℕ, Ok, Option, sym, subst, arith}
use Rattle.xp_words.specs.Entries.{frame_of}
use Rattle.own_cache.specs.declared.flight.Flight.{Flight}
use Rattle.tlb_walks.specs.Flying.{EndedIn, IsAt, PathMoves}
use Rattle.tlb_walks.specs.Walks.{barrier_with}
use Rattle.tlb_walks.proofs.Turning.{turned_ready}
use Rattle.tlb_walks.proofs.Descending.{last_hand, last_path, mapped_inside, more_path, next_at, next_hand, page_few, stop_path}
use Rattle.tlb_walks.proofs.levels.+walk_from.Goals as goal

pub returns-in-Err-clause-path : goal.returns-in-Err-clause-path
returns-in-Err-clause-path g t c = stop_path _ _ _ c.args.flight.now.write c.args.va c.args.barrier c.args.flight.now c.index_at-index.result c.requires.at c.index_at-index.ensures.index _ c.in-Err.ensures.moves

pub returns-then-flight-eq1-clause-path : goal.returns-then-flight-eq1-clause-path
returns-then-flight-eq1-clause-path g t c =
    subst (λ (b : Option ℕ). PathMoves (g.P.Port.value c.pass.new.port) c.args.va c.args.flight.now.write (Ok (record { entry = c.in-Ok.word; barrier = b })) (g.P.Port.value c.args.port.now) c.args.flight.now.level c.args.flight.now.table c.args.barrier) (sym c.with_barrier-barrier.ensures)
    (last_path _ _ _ c.args.flight.now.write c.args.va c.args.barrier c.args.flight.now c.index_at-index.result c.requires.at c.index_at-index.ensures.index c.in-Ok.word c.in-Ok.ensures.moves c.if-flight-eq1.true)

pub returns-then-flight-eq1-clause-hand : goal.returns-then-flight-eq1-clause-hand
returns-then-flight-eq1-clause-hand g t c =
    subst (λ (b : Option ℕ). EndedIn (g.P.Port.value c.args.port.now) (g.P.Port.value c.pass.new.port) c.args.flight.now.user c.args.va c.args.flight.now.write (Ok (record { entry = c.in-Ok.word; barrier = b }))) (sym c.with_barrier-barrier.ensures)
    (last_hand _ _ c.args.va c.args.barrier c.args.flight.now c.index_at-index.result c.in-Ok.word c.requires.at c.index_at-index.ensures.index c.in-Ok.ensures.moves.0 c.in-Ok.ensures.hand c.if-flight-eq1.true)

pub next_of-next-requires-clause-page : goal.next_of-next-requires-clause-page
next_of-next-requires-clause-page g t c =
    let low = c.requires.at.low in
    let off = c.if-flight-eq1.false in
    subst (λ p. p < 134217728) (sym c.requires.at.page) (page_few c.args.va c.args.flight.now.level (omega arith) c.requires.at.high)

pub next_of-next-requires-clause-frame : goal.next_of-next-requires-clause-frame
next_of-next-requires-clause-frame g t c =
    subst (λ k. frame_of c.in-Ok.word < k) (sym c.frames_of-frames.ensures) (mapped_inside (g.P.Port.value c.args.port.now).post.machine c.in-Ok.word c.in-Ok.ensures.moves.0)

pub walk_from-requires : goal.walk_from-requires
walk_from-requires g t c κs within = (
  search rules,
  (
    search rules,
    (
      turned_ready _ _ _ c.in-Ok.ensures.hand c.requires.ready,
      subst (λ (b : Option ℕ). IsAt (g.P.Port.value c.pass.new.port) c.next_of-next.result.user c.args.va c.next_of-next.result.write b c.next_of-next.result) (sym c.with_barrier-barrier.ensures)
          (subst (λ (f : Flight). IsAt (g.P.Port.value c.pass.new.port) f.user c.args.va f.write (barrier_with c.args.barrier c.in-Ok.word) f) (sym c.next_of-next.ensures)
          (next_at _ _ c.args.va c.args.barrier c.args.flight.now c.index_at-index.result c.in-Ok.word c.requires.at c.index_at-index.ensures.index c.in-Ok.ensures.moves.0 c.in-Ok.ensures.hand c.if-flight-eq1.false)),
    ),
  ),
)

pub returns-clause-path : goal.returns-clause-path
returns-clause-path g t c =
    more_path _ _ _ c.args.flight.now.write c.args.va c.args.barrier c.args.flight.now c.index_at-index.result c.requires.at c.index_at-index.ensures.index _ c.walk_from.result c.in-Ok.word c.in-Ok.ensures.moves c.if-flight-eq1.false
    (subst (λ (b : Option ℕ). PathMoves (g.P.Port.value c.walk_from.new.port) c.args.va c.args.flight.now.write c.walk_from.result (g.P.Port.value c.pass.new.port) (c.args.flight.now.level - 1) (frame_of c.in-Ok.word) b) c.with_barrier-barrier.ensures
    (subst (λ (f : Flight). PathMoves (g.P.Port.value c.walk_from.new.port) c.args.va f.write c.walk_from.result (g.P.Port.value c.pass.new.port) f.level f.table c.with_barrier-barrier.result) c.next_of-next.ensures c.walk_from.ensures.path))

pub returns-clause-hand : goal.returns-clause-hand
returns-clause-hand g t c =
    next_hand _ _ c.args.va c.args.barrier c.args.flight.now c.index_at-index.result c.in-Ok.word c.requires.at c.index_at-index.ensures.index c.in-Ok.ensures.moves.0 c.in-Ok.ensures.hand _ c.walk_from.result c.if-flight-eq1.false
    (subst (λ (f : Flight). EndedIn (g.P.Port.value c.pass.new.port) (g.P.Port.value c.walk_from.new.port) f.user c.args.va f.write c.walk_from.result) c.next_of-next.ensures c.walk_from.ensures.hand)
