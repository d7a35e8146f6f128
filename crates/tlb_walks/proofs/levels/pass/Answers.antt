use Rattle.std.proofs.Common.{◌<◌, ◌≤◌, Err, refl, sym, ap, ◌∙◌, subst}
use Rattle.xp_words.specs.Entries.{frame_of}
use Rattle.xp_words.specs.Machine.{Machine}
use Rattle.xp_words.specs.Places.{number, sizes_of}
use Rattle.xp_words.specs.declared.place.Place.TheVariants.{Cell}
use Rattle.xp_words.specs.declared.reply.Stop.{Stop}
use Rattle.tlb_walks.specs.Flying.{PassedBy}
use Rattle.tlb_walks.proofs.Passing.{entry_met, entry_missed, lost_to, mapped_in, may_load, past_to, sees, set_to, unmapped_past}
use Rattle.tlb_walks.proofs.levels.pass.Given.{Over}
use Rattle.tlb_walks.proofs.levels.pass.Goals as goal

pub load_entry-word-requires-clause-flying : goal.load_entry-word-requires-clause-flying
load_entry-word-requires-clause-flying g c = may_load _ c.args.flight.now c.args.index c.requires.ready c.requires.flying c.requires.free c.requires.low c.requires.walked

pub set_bits-requires-clause-seen : goal.set_bits-requires-clause-seen
set_bits-requires-clause-seen g c = sees _ _ c.args.flight.now c.args.index _ c.requires.flying c.load_entry-word.ensures.moves c.load_entry-word.ensures.hand (sym c.if-not-present.ensures)

pub returns-in-Err-clause-moves : goal.returns-in-Err-clause-moves
returns-in-Err-clause-moves g c =
    let e = entry_missed _ _ _ c.args.flight.now.table c.args.index _ _ c.in-Err.found c.load_entry-word.ensures.moves (sym c.if-not-present.ensures) c.in-Err.ensures.moves in (
      _,
      _,
      e.0,
      λ b. (c.place-place.ensures ∙ ap (λ (n : Machine). number (sizes_of n) (Cell c.args.flight.now.table c.args.index)) c.layout.ensures.layout, refl, refl, sym c.if-not-present.ensures, e.1, e.2),
    )

pub returns-in-Err-clause-hand : goal.returns-in-Err-clause-hand
returns-in-Err-clause-hand g c = lost_to _ _ _ c.args.flight.now c.args.index _ c.requires.flying c.load_entry-word.ensures.moves c.load_entry-word.ensures.hand c.in-Err.ensures.hand

past : (g : Over) (c : goal.After-unmapped-then-frame-frames g) → (g.P.Port.value c.args.port.now).post.machine.frames ≤ frame_of c.load_entry-word.result
past g c =
    subst (λ x. x ≤ frame_of c.load_entry-word.result) (c.from-frames.ensures ∙ c.frames_of.ensures) (subst (λ y. c.from-frames.result ≤ y) c.frame.ensures c.if-frame-frames.true)

pub returns-then-frame-frames-clause-hand : goal.returns-then-frame-frames-clause-hand
returns-then-frame-frames-clause-hand g c = past_to _ _ _ c.args.flight.now c.args.index _ c.requires.flying c.load_entry-word.ensures.moves c.load_entry-word.ensures.hand c.in-Ok.ensures.hand (past g c)

pub returns-clause-hand : goal.returns-clause-hand
returns-clause-hand g c = set_to _ _ _ c.args.flight.now c.args.index _ c.requires.flying c.load_entry-word.ensures.moves c.load_entry-word.ensures.hand c.in-Ok.ensures.hand

pub returns-clause-moves : goal.returns-clause-moves
returns-clause-moves g c = (
  mapped_in (g.P.Port.value c.args.port.now).post.machine _ (sym c.if-not-present.ensures) (subst (λ x. frame_of c.load_entry-word.result < x) (c.from-frames.ensures ∙ c.frames_of.ensures) (subst (λ y. y < c.from-frames.result) c.frame.ensures c.if-frame-frames.false)),
  entry_met _ _ _ c.args.flight.now.table c.args.index _ _ c.load_entry-word.ensures.moves (sym c.if-not-present.ensures) c.in-Ok.ensures.moves,
)

pub returns-then-frame-frames-clause-moves : goal.returns-then-frame-frames-clause-moves
returns-then-frame-frames-clause-moves g c =
    subst (λ (s : Stop). PassedBy (g.P.Port.value c.args.port.now) (g.P.Port.value c.set_bits.new.port) c.args.flight.now c.args.index (Err s)) (sym c.unmapped-then-frame-frames.ensures)
    (_, _, entry_met _ _ _ c.args.flight.now.table c.args.index _ _ c.load_entry-word.ensures.moves (sym c.if-not-present.ensures) c.in-Ok.ensures.moves, λ b. (refl, refl, unmapped_past (g.P.Port.value c.args.port.now).post.machine _ (past g c), refl))
