-- What the plain value has for the next entry of a table.
use Rattle.std.specs.Prelude.{◌≡◌, ℕ, Bool, true, false, Some, None, Result, Ok, Err}
use Rattle.xp_words.specs.KindWords.{kind_fields}
use Rattle.xp_words.specs.Machine.{Machine}
use Rattle.xp_words.specs.declared.entry.Demand.{Demand}
use Rattle.xp_words.specs.declared.entry.Demand.TheVariants as demands
use Rattle.xp_words.specs.declared.kind.PageType.{PageType}
use Rattle.xp_words.specs.declared.place.Place.TheVariants.{Kind}
use Rattle.xp_words.specs.declared.reply.Pause.TheVariants.{Busy, Flush}
use Rattle.xp_words.specs.declared.reply.Refusal.TheVariants as refusals
use Rattle.xp_words.specs.declared.reply.Stop.{Stop}
use Rattle.xp_words.specs.declared.reply.Stop.TheVariants.{Refused, Paused}
use Rattle.xp_board.specs.Readings.{is_dead}
use Rattle.step_maker.specs.Plain.{Words}
use Rattle.kind_words.specs.Kinds.{partial_kind}
use Rattle.frame_types.specs.Plain.{type_waits}
use Rattle.frame_types.specs.Standing.{standing_of}
use Rattle.frame_types.specs.declared.standing.Standing.TheVariants as stands
use Rattle.table_entries.specs.Plain.{is_own_of}
use Rattle.table_entries.specs.declared.entries.Entered.{Entered}
use Rattle.table_entries.specs.declared.entries.Entered.TheVariants.{Recorded, Opened, Unsettled}
use Rattle.table_law.specs.Alone.{PlainOutcome, take_reference}
use Rattle.table_law.specs.Levels.{closed_as}
use Rattle.table_law.specs.Plain.{Describes, Plain, reference_back, with_kind}
use Rattle.table_twins.specs.Answers.{IsSameAnswer}
use Rattle.table_twins.specs.Types.{IsOpenedPlain, IsReady}

-- the frame of which it asks a type is ready
abbrev pub IsReadyFor : Machine → Words → Demand → Type 0
IsReadyFor n m (demands.Typed g t) = IsReady n t (m (Kind g))
IsReadyFor n m _ = Unit {0}

-- It asks a type, and the reference is to be had; what X says of the frame, the type, and the plain value with the reference taken.
abbrev pub OfTyped : Machine → ℕ → Plain → Demand → (ℕ → PageType → Plain → Type 0) → Type 0
OfTyped n owner p (demands.Typed g t) X = ((take_reference n owner g p).refusal ≡ None) × X g t (take_reference n owner g p).left
OfTyped n owner p _ X = ⊥

-- a flush is awaited: by the words m
abbrev pub awaits : Words → ℕ → PageType → Bool
awaits m g t = type_waits t (m (Kind g))

-- it is partial there, with its mark, as each frame is that waits for a flush without being in work
abbrev pub waiting : ℕ → PageType → Plain → Plain
waiting g t q = with_kind g (partial_kind t false true 0 0) q

-- o: what the plain value makes of the entry, which asks d; m: the words before. What is recorded or opened is so on the plain
-- value, where the frame is ready, and what is refused is refused there for the same cause. Of waiting the plain value knows
-- nothing: an entry waits only where a flush is awaited; and it pauses only there, where another holder has the type count, or
-- where the frame is busy.
abbrev pub EntersAsPlain : Machine → ℕ → ℕ → Plain → PlainOutcome → Words → Words → Demand → Result Entered Stop → Type 0
EntersAsPlain n l owner p o m words d (Ok Recorded) = IsReadyFor n m d → (o.refusal ≡ None) × Describes n words o.left
EntersAsPlain n l owner p o m words d (Ok (Opened h progress own)) =
    OfTyped n owner p d (λ g t q. (h ≡ g) × (IsReady n t (m (Kind g)) → IsOpenedPlain n l g progress own q words))
EntersAsPlain n l owner p o m words d (Ok (Unsettled stop)) =
    OfTyped n owner p d (λ g t q. (awaits m g t ≡ true) × (is_own_of m g t ≡ true) × (IsReady n t (m (Kind g)) → (is_dead (q.kinds g) ≡ true) × Describes n words (waiting g t q)))
EntersAsPlain n l owner p o m words d (Err (Refused (refusals.Clock x))) =
    OfTyped n owner p d (λ g t q. (awaits m g t ≡ true) × (IsReady n t (m (Kind g)) → (is_dead (q.kinds g) ≡ true) × Describes n words (closed_as true g t q)))
EntersAsPlain n l owner p o m words d (Err (Refused x)) = IsSameAnswer (Some x) o.refusal × Describes n words o.left
EntersAsPlain n l owner p o m words d (Err (Paused (Flush u y x))) =
    OfTyped n owner p d (λ g t q. (awaits m g t ≡ true) × (is_own_of m g t ≡ false) × Describes n words (reference_back g (waiting g t q)))
EntersAsPlain n l owner p o m words d (Err (Paused (Busy h w))) =
    OfTyped n owner p d (λ g t q. (h ≡ g) × (w ≡ m (Kind g)) × (standing_of (kind_fields w) t ≡ stands.Busy) × Describes n words (reference_back g q))
EntersAsPlain n l owner p o m words d (Err (Paused x)) = ⊥
