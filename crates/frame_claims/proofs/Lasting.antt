-- Steps elsewhere: what was last found or left at a place stays so.
use Rattle.std.proofs.Common.{◌≡◌, ◌≢◌, ℕ, ◌<◌, ◌≤◌, List, [], ◌∷◌, length, Option, Result, refl, sym, ◌∙◌, subst, arith}
use Rattle.xp_words.specs.Places.{sizes_of}
use Rattle.xp_words.specs.declared.place.Place.{Place}
use Rattle.xp_words.specs.declared.place.Place.TheVariants.{Refs}
use Rattle.xp_words.specs.declared.reply.Stop.{Stop}
use Rattle.xp_board.specs.declared.step.Act.{Act}
use Rattle.xp_board.specs.declared.step.Mark.{Mark}
use Rattle.xp_board.specs.declared.step.StepKind.{StepKind}
use Rattle.xp_board.specs.Lists.{EachOf}
use Rattle.xp_board.specs.Steps.{last_since}
use Rattle.xp_board.specs.Told.{Post, PortValue}
use Rattle.step_maker.specs.Moves.{Came, Met, Moment, Moves, Ran}
use Rattle.step_maker.proofs.Coming.{came_post}
use Rattle.step_maker.specs.Reasons.{Whose}
use Rattle.step_maker.specs.Visits.{Visit, visits, Does}
use Rattle.flush_words.proofs.Lasting.{came_longer, last_kept, moves_longer}
use Rattle.flush_waits.specs.Listing.{WaitedFor}
use Rattle.frame_claims.specs.Choosing.{KeepsLast}
use Rattle.frame_claims.proofs.Telling.{Alls}
use Rattle.frame_claims.proofs.Waiting.{not_refs, waited_all}

-- ---- one of the steps
pub met_within : (v w : PortValue) (m : Moment) → Met v w m → (length v.holdings.steps ≤ length m.hand.steps) × (length m.hand.steps < length w.holdings.steps)
met_within v w m met =
    let before = came_longer v met.from met.before in
    let after = came_longer met.to w met.after in
    let more = moves_longer met.from met.to _ _ _ _ _ met.moved.moves in
    rw met.moved.hand (before, omega (arith, more, after))

-- ---- steps elsewhere
pub keeps_self : (v : PortValue) (p : Place) → KeepsLast v v p
keeps_self v p n late = refl

pub keeps_then : (v u w : PortValue) (p : Place) → Came v u → KeepsLast v u p → KeepsLast u w p → KeepsLast v w p
keeps_then v u w p came a b n late =
    let longer = came_longer v u came in
    subst (λ (q : Post). last_since (sizes_of q.machine) n p w.holdings.steps ≡ last_since (sizes_of q.machine) n p u.holdings.steps) (came_post v u came) (b n (omega (arith, late, longer))) ∙ a n late

pub keeps_moves : (v w : PortValue) (q : Place) (a : Act) (k : StepKind) (mark : Option Mark) (x : ℕ) (p : Place) → Moves v w q a k mark x → q ≢ p → KeepsLast v w p
keeps_moves v w q a k mark x p m off n late = last_kept v w q a k mark x m n p late off

-- ---- by a list of visits
abbrev pub Off : Place → Visit → Type 0
Off p x = x.place ≢ p

ran_keeps : (v w : PortValue) (p : Place) (ms : List Moment) → Ran v ms w → EachOf (Off p) (visits ms) → KeepsLast v w p
unfolding EachOf Came
ran_keeps v w p [] ran off = subst (λ (y : PortValue). KeepsLast v y p) (sym ran) (keeps_self v p)
ran_keeps v w p (m ∷ ms) ran off =
    keeps_then v ran.0 w p (ms, ran.1) (ran_keeps v ran.0 p ms ran.1 off.1) (keeps_moves ran.0 w m.place m.act m.kind m.mark m.found p ran.2.moves off.0)

pub does_keeps : (v w : PortValue) (p : Place) (P : List Visit → Type 0) → Alls (Off p) P → Does v w P → KeepsLast v w p
unfolding Does
does_keeps v w p P offs does = ran_keeps v w p does.0 does.1 (offs (visits does.0) does.2)

-- a wait for flushes is at no reference word
pub waited_off : (f : ℕ) (q : Post) (whose : Whose) (stamp : ℕ) (answer : Result (Unit {0}) Stop) → Alls (Off (Refs f)) (WaitedFor q whose stamp answer)
waited_off f q whose stamp answer = waited_all (Off (Refs f)) (λ x aside e. not_refs x.place f aside e) q whose stamp answer
