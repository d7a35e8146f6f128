-- When each row may be made, and what it leaves in hand.
use Rattle.std.proofs.Common.{◌≡◌, ◌≢◌, ℕ, ◌+◌, ◌<◌, ◌^◌, if◌then◌else◌, Result, Ok, Err, IfErr, MatchResult, true, false, Some, None, refl, ap, ◌∙◌, arith, lit<}
use Rattle.xp_words.specs.declared.place.Place.TheVariants.{Refs, M2p}
use Rattle.xp_words.specs.Places.{sizes_of}
use Rattle.xp_words.specs.RefWords.{ref_read, IsRef}
use Rattle.xp_words.specs.declared.refs.RefWord.TheVariants.{Owned}
use Rattle.xp_words.proofs.RefLaws.{ref_read-write}
use Rattle.xp_words.proofs.Shared.{eq_false as when_ne}
use Rattle.xp_board.specs.declared.step.Act.TheVariants.{Cas, Store, Add}
use Rattle.xp_board.specs.declared.step.StepKind.TheVariants as kinds
use Rattle.xp_board.specs.Hands.{hand}
use Rattle.xp_board.specs.Readings.{owner_of, owner_in}
use Rattle.xp_board.specs.RefSteps.{Raise, one_down, after_ref_row, ref_row, owner_number}
use Rattle.xp_board.specs.Told.{PortValue}
use Rattle.xp_board.proofs.Rows.{raise_legal, map_legal}
use Rattle.xp_board.proofs.Sums.{if_itself}
use Rattle.xp_board.proofs.Numbers.{refs_there}
use Rattle.step_maker.specs.Holds.{Holds, Same, MayWork, still}
use Rattle.step_maker.specs.Moves.{May, Moves, found_by}
use Rattle.frame_words.specs.declared.rows.Open.{Open}
use Rattle.frame_words.specs.Refs.{open_word, raised_word, IsOpen, took, MayPut}

-- ---- reference words
pub open_is_ref : (v : PortValue) (o : Open) → MayWork v → IsOpen v.post.machine o → IsRef (Owned o.owner o.allocated o.count)
unfolding IsRef
open_is_ref v o may room = let few = may.machine.few_counts in let domains = may.machine.few_domains in let below = room.below in let owner = room.owner in (omega arith, room.some, omega arith)

pub raised_is_ref : (v : PortValue) (o : Open) → MayWork v → IsOpen v.post.machine o → IsRef (Owned o.owner o.allocated (o.count + 1))
unfolding IsRef
raised_is_ref v o may room = let few = may.machine.few_counts in let domains = may.machine.few_domains in let below = room.below in let owner = room.owner in (omega arith, omega arith, omega arith)

pub may_raise : (v : PortValue) (f e n : ℕ) (o : Open) → f < v.post.machine.frames → MayWork v → IsOpen v.post.machine o → e ≡ open_word o → n ≡ raised_word o → May v (Refs f) (Cas e n) kinds.Ref None
may_raise v f e n o frame may room is next =
    rw (is, next)
    (raise_legal v.post.machine v.post.vcpu f o.owner o.count o.allocated v.holdings may.machine.few_counts may.machine.few_domains frame may.running room.owner room.some room.below)

pub may_lower : (v : PortValue) (f : ℕ) → f < v.post.machine.frames → MayWork v → MayPut f v.holdings → May v (Refs f) (Add one_down) kinds.Ref None
may_lower v f frame may give =
    record {
      place = refs_there (sizes_of v.post.machine) f frame;
      marked = tt;
      running = λ needs. may.running;
      spelling = lit< tt;
      act = record { one = refl; in_hand = give.held; spares = give.spares };
    }

pub may_map : (v : PortValue) (f g : ℕ) → f < v.post.machine.frames → MayWork v → g < 2 ^ 64 → 0 < hand f v.holdings → May v (M2p f) (Store g) kinds.M2p None
may_map v f g frame may small held = map_legal v.post.machine v.post.vcpu f g v.holdings frame may.running small held

-- an exchange of a reference word that found another
pub lost_refs : (v w : PortValue) (f e n found : ℕ) → Moves v w (Refs f) (Cas e n) kinds.Ref None found → found ≢ e → Same v w
lost_refs v w f e n found m off =
    ap still m.to
    ∙ ap (λ b. still (record v { holdings = if b then after_ref_row (ref_row (ref_read e) (ref_read n)) v.post.machine v.post.vcpu f found v.holdings else v.holdings })) (when_ne found e off)

-- one that found it
raise_row : (o a c : _) → ref_row (Some (Owned o a c)) (Some (Owned o a (c + 1))) ≡ Raise
raise_row o true c = refl
raise_row o false c = refl

pub took_refs : (v w : PortValue) (f : ℕ) (o : Open) → MayWork v → IsOpen v.post.machine o → Moves v w (Refs f) (Cas (open_word o) (raised_word o)) kinds.Ref None (open_word o) → Holds v w (took f o.owner v.holdings)
unfolding owner_of
took_refs v w f o may room m =
    let before = ref_read-write (Owned o.owner o.allocated o.count) (open_is_ref v o may room) in
    let next = ref_read-write (Owned o.owner o.allocated (o.count + 1)) (raised_is_ref v o may room) in
    let row = ap (λ a. ref_row a (ref_read (raised_word o))) before ∙ ap (λ a. ref_row (Some (Owned o.owner o.allocated o.count)) a) next ∙ raise_row o.owner o.allocated o.count in
    ap still m.to
    ∙ ap (λ g. still (record v { holdings = g }))
    (if_itself (open_word o) (after_ref_row (ref_row (ref_read (open_word o)) (ref_read (raised_word o))) v.post.machine v.post.vcpu f (open_word o) v.holdings) v.holdings
    ∙ ap (λ r. after_ref_row r v.post.machine v.post.vcpu f (open_word o) v.holdings) row)
    ∙ ap (λ d. still (record v { holdings = took f d v.holdings })) (ap (λ r. owner_number (owner_in r)) before)

pub raised_hand : (v w : PortValue) (f : ℕ) (o : Open) (r : Result (Unit {0}) ℕ) → MayWork v → IsOpen v.post.machine o →
    Moves v w (Refs f) (Cas (open_word o) (raised_word o)) kinds.Ref None (found_by (open_word o) r) → IfErr r (λ found. found ≢ open_word o) →
    MatchResult r (λ done. Holds v w (took f o.owner v.holdings)) (λ found. Same v w)
raised_hand v w f o (Ok done) may room m off = took_refs v w f o may room m
raised_hand v w f o (Err found) may room m off = lost_refs v w f _ _ found m off

pub ruleset rows = (refs_there, open_is_ref, raised_is_ref, may_raise, may_lower, may_map, raised_hand)
