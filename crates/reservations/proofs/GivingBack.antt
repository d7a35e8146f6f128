-- One frame that is given back: what its steps show, and what they leave.
use Rattle.std.proofs.Common.{◌≡◌, ◌≢◌, ◌⊎◌, ℕ, ◌<◌, ◌≤◌, ◌&&◌, if◌then◌else◌, Bool, true, false, [], ◌∷◌, ◌++◌, Option, Some, None, Result, Ok, Err, refl, sym, ap, ◌∙◌, subst, inl, inr}
use Rattle.xp_words.specs.Machine.{Machine}
use Rattle.xp_words.specs.Places.{number, place_at, sizes_of}
use Rattle.xp_words.specs.RefWords.{ref_read, ref_write, IsRef}
use Rattle.xp_words.specs.declared.place.Place.TheVariants.{Refs}
use Rattle.xp_words.specs.declared.refs.RefWord.{RefWord}
use Rattle.xp_words.specs.declared.refs.RefWord.TheVariants.{Free, Owned, Dying}
use Rattle.xp_words.specs.declared.reply.Pause.TheVariants.{Lost}
use Rattle.xp_words.specs.declared.reply.Refusal.TheVariants.{NoFrame, WrongOwner}
use Rattle.xp_words.specs.declared.reply.Stop.{Stop}
use Rattle.xp_words.specs.declared.reply.Stop.TheVariants.{Refused, Paused}
use Rattle.xp_words.proofs.PlaceLaws.{place_back}
use Rattle.xp_words.proofs.RefLaws.{ref_read-write, ref_write-read}
use Rattle.xp_words.proofs.Shared.{lt_true as inside, lt_false as beyond, eq_false as when_ne}
use Rattle.xp_board.specs.Acts.{left_by}
use Rattle.xp_board.specs.Steps.{is_same}
use Rattle.xp_board.specs.Told.{PortValue, is_telling, told_word}
use Rattle.xp_board.specs.declared.holdings.OwnerFound.TheVariants as owners
use Rattle.xp_board.specs.declared.step.Act.TheVariants.{Cas, Load, Store}
use Rattle.xp_board.specs.declared.step.StepKind.TheVariants as kinds
use Rattle.xp_board.proofs.RefWords.{owned_says, read_small}
use Rattle.xp_board.proofs.Sums.{when_eq}
use Rattle.step_maker.specs.Moves.{Moves}
use Rattle.step_maker.specs.Plain.{Leaves, Words, change}
use Rattle.step_maker.proofs.Coming.{moment_of, met_after, met_before, moves_came, moves_met}
use Rattle.step_maker.proofs.Telling.{leaves, leaves_then, load_tells, moves_telling, told_there}
use Rattle.step_maker.specs.Answers.{Misses, Returns, Serves, Stops, deeds_by, exchanged, missed_at}
use Rattle.step_maker.specs.Asked.{Asked, of, of_back, of_return, named}
use Rattle.step_maker.specs.Finding.{Finding}
use Rattle.step_maker.specs.Licences.{IsOwnedBy, is_allocated}
use Rattle.step_maker.specs.Reasons.{Reason}
use Rattle.step_maker.specs.Twins.{Twin}
use Rattle.step_maker.specs.Visits.{Does, Only}
use Rattle.step_maker.proofs.Changing.{moves_found}
use Rattle.step_maker.proofs.Piecing.{moves_serves, serves_back, serves_step}
use Rattle.step_maker.proofs.Visiting.{does_as, does_nothing, does_one, does_then}
use Rattle.frame_claims.specs.Found.{saw_refs}
use Rattle.frame_words.specs.Freeing.{PutBy, Puts}
use Rattle.frame_words.specs.Plain.{put}
use Rattle.frame_words.proofs.Taking.{just_looked}
use Rattle.reservations.specs.Returning.{Clears, ReturnsBy, UnreturnedBy, cleared, cleared_in, clears_mark, is_own_allocated, outside, refused, return_refusal, returned}

-- ---- what is asked
asks_itself : (n : Machine) (s f owner : ℕ) (F : Finding) → Asked n s (of_return f owner) F f owner None
asks_itself n s f owner F = named (when_eq f f refl) refl tt

abbrev TwinReturn : PortValue → PortValue → ℕ → ℕ → Result (Unit {0}) Stop → Type 0
TwinReturn v w owner f answer = Twin v w (return_refusal v.post.machine owner f (told_word v (Refs f))) (returned f (told_word v)) answer

-- ---- a frame that the machine has not
pub outside_stops : (v : PortValue) (f owner : ℕ) → v.post.machine.frames ≤ f → Stops v v (of_return f owner) (Refused (NoFrame f))
unfolding Stops
outside_stops v f owner past = (of owner None (asks_itself _ _ f owner _), past)

pub outside_does : (v : PortValue) (f owner : ℕ) → v.post.machine.frames ≤ f → Does v v (λ vs. ReturnsBy v.post.machine owner f (Err (Refused (NoFrame f))) vs)
outside_does v f owner past = does_as v v _ (λ vs. UnreturnedBy v.post.machine owner f (NoFrame f) vs) (λ vs none. outside past refl none) (does_nothing v)

pub outside_plain : (v : PortValue) (f owner : ℕ) → v.post.machine.frames ≤ f → TwinReturn v v owner f (Err (Refused (NoFrame f)))
outside_plain v f owner past telling = (
  ap (λ c. if c then (if is_own_allocated owner (ref_read (told_word v (Refs f))) then None else Some (WrongOwner f (told_word v (Refs f)))) else Some (NoFrame f)) (beyond f v.post.machine.frames past),
  λ q. refl,
)

-- ---- why it is not given back
unreturned : (owner : ℕ) (r : Option RefWord) → is_own_allocated owner r ≡ false → (IsOwnedBy owner r → ⊥) ⊎ ((true ≡ true) × (is_allocated r ≡ false))
unreturned owner None off = inl (λ is. is)
unreturned owner (Some (Free stamp)) off = inl (λ is. is)
unreturned owner (Some (Dying d)) off = inl (λ is. is)
unreturned owner (Some (Owned o false count)) off = inr (refl, refl)
unreturned owner (Some (Owned o true count)) off = inl (λ is. let k = subst (λ b. (b && true) ≡ false) (when_eq o owner is) off in absurd cc)

refusal_is : (n : Machine) (owner f w : ℕ) (b : Bool) → f < n.frames → is_own_allocated owner (ref_read w) ≡ b → return_refusal n owner f w ≡ (if b then None else Some (WrongOwner f w))
refusal_is n owner f w b real is =
    ap (λ c. if c then (if is_own_allocated owner (ref_read w) then None else Some (WrongOwner f w)) else Some (NoFrame f)) (inside f n.frames real) ∙ ap (λ c. if c then None else Some (WrongOwner f w)) is

-- ---- the hand

module _ {v u : PortValue} {f word : ℕ} (owner : ℕ) (look : Moves v u (Refs f) Load kinds.Look None word) (real : f < v.post.machine.frames) where
  pub looked : Serves v u (of_return f owner) []
  looked = moves_serves v u (of_return f owner) _ _ _ _ _ look tt

  module _ (off : is_own_allocated owner (ref_read word) ≡ false) where
    pub refused_stops : Stops v u (of_return f owner) (Refused (WrongOwner f word))
    unfolding Stops
    refused_stops = (owner, None, asks_itself _ _ f owner _, moves_found v u _ _ _ _ word look, unreturned owner (ref_read word) off)

    pub refused_does : Does v u (λ vs. ReturnsBy v.post.machine owner f (Err (Refused (WrongOwner f word))) vs)
    refused_does =
        does_as v u _ (λ vs. UnreturnedBy v.post.machine owner f (WrongOwner f word) vs) (λ vs one. refused word real (refusal_is v.post.machine owner f word false real off) one) (does_one v u _ _ _ _ word look)

    pub refused_plain : TwinReturn v u owner f (Err (Refused (WrongOwner f word)))
    refused_plain telling = (
      ap (return_refusal v.post.machine owner f) (told_there v u (Refs f) Load kinds.Look None word look telling) ∙ refusal_is v.post.machine owner f word false real off,
      load_tells v u (Refs f) kinds.Look None word look telling,
    )

  -- ---- the mark is taken off
  module _ {w : PortValue} {count found : ℕ} (read : ref_read word ≡ Some (Owned owner true count))
      (clear : Moves u w (Refs f) (Cas (ref_write (Owned owner true count)) (ref_write (Owned owner false count))) kinds.Ref None found) where
    word_law : (IsRef (Owned owner true count)) × (ref_write (Owned owner true count) ≡ word)
    word_law = ref_write-read word (Owned owner true count) (read_small word _ read) read

    cleared_is : cleared word ≡ ref_write (Owned owner false count)
    cleared_is = ap (cleared_in word) read

    cleared_read : ref_read (cleared word) ≡ Some (Owned owner false count)
    unfolding IsRef
    cleared_read = ap ref_read cleared_is ∙ ref_read-write (Owned owner false count) word_law.0

    step : Moves u w (Refs f) (Cas word (cleared word)) kinds.Ref None found
    step =
        subst (λ n. Moves u w (Refs f) (Cas word n) kinds.Ref None found) (sym cleared_is)
        (subst (λ e. Moves u w (Refs f) (Cas e (ref_write (Owned owner false count))) kinds.Ref None found) word_law.1 clear)

    own : is_own_allocated owner (ref_read word) ≡ true
    own = ap (is_own_allocated owner) read ∙ ap (λ b. b && true) (when_eq owner owner refl)

    asks : (F : Finding) → Reason v.post.machine v.post.vcpu (of_return f owner) F (Refs f) (Cas word (cleared word)) found u.holdings
    asks F = (of owner None (asks_itself _ _ f owner F), λ free. absurd (let off = (owned_says word owner true count read).free in cc))

    tried : Serves v w (of_return f owner) (deeds_by (Refs f) (Cas word (cleared word)) kinds.Ref found u.holdings ++ [])
    tried = serves_step v u w (of_return f owner) [] _ _ _ _ _ looked step (asks _)

    cleared_does : Does v w (Clears f word found)
    cleared_does = does_then v u w (Only (saw_refs f word)) (Only (clears_mark f word found)) (does_one v u _ _ _ _ word look) (does_one u w _ _ _ _ found step)

    -- it found another word
    module _ (lost : found ≢ ref_write (Owned owner true count)) where
      off : found ≢ word
      off at = lost (at ∙ sym word_law.1)

      pub missed_there : (place : ℕ) → place ≡ number (sizes_of v.post.machine) (Refs f) → Serves v w (of_return f owner) (missed_at (place_at (sizes_of v.post.machine) place))
      missed_there place at =
          let is : place_at (sizes_of v.post.machine) place ≡ Refs f = ap (place_at (sizes_of v.post.machine)) at ∙ place_back (sizes_of v.post.machine) (Refs f) look.may.place in
          rw is (subst (λ b. Serves v w (of_return f owner) ((if b then exchanged (Refs f) word (cleared word) else (Misses (Refs f) ∷ [])) ++ [])) (when_ne found word off) tried)

      pub lost_stops : (place : ℕ) → place ≡ number (sizes_of v.post.machine) (Refs f) → Stops v w (of_return f owner) (Paused (Lost place word found))
      unfolding Stops moment_of
      lost_stops place at = (
        Refs f,
        at,
        (λ e. cc),
        (
          record {
            before = moment_of v (Refs f) Load kinds.Look None word;
            exchange = moment_of u (Refs f) (Cas word (cleared word)) kinds.Ref None found;
            new = cleared word;
            was_before = met_before v u w _ (moves_met v u _ _ _ _ _ look) (moves_came u w _ _ _ _ _ step);
            was_exchange = met_after v u w _ (moves_came v u _ _ _ _ _ look) (moves_met u w _ _ _ _ _ step);
            place_before = refl;
            place = refl;
            act = refl;
            word = refl;
            last = just_looked v u f word look;
            other = off;
          },
          asks _,
        ),
      )

      pub lost_does : (place : ℕ) → place ≡ number (sizes_of v.post.machine) (Refs f) → Does v w (λ vs. ReturnsBy v.post.machine owner f (Err (Paused (Lost place word found))) vs)
      lost_does place at =
          does_as v w _ (λ vs. ReturnsBy v.post.machine owner f (Err (Paused (Lost place word found))) vs) (λ vs steps. (at, refusal_is v.post.machine owner f word true real own, off, steps)) cleared_does

      pub never_lost : is_telling v ≡ true → ⊥
      never_lost telling =
          let on = moves_telling v u (Refs f) Load kinds.Look None word look ∙ telling in
          off (sym (told_there u w (Refs f) _ kinds.Ref None found step on) ∙ load_tells v u (Refs f) kinds.Look None word look telling (Refs f) ∙ told_there v u (Refs f) Load kinds.Look None word look telling)

  -- it is off, and the reference of it is given back
  module _ {w : PortValue} {count : ℕ} (read : ref_read word ≡ Some (Owned owner true count))
      (clear : Moves u w (Refs f) (Cas (ref_write (Owned owner true count)) (ref_write (Owned owner false count))) kinds.Ref None (ref_write (Owned owner true count))) where
    off_step : Moves u w (Refs f) (Cas word (cleared word)) kinds.Ref None word
    off_step = subst (Moves u w (Refs f) (Cas word (cleared word)) kinds.Ref None) (word_law read clear).1 (step read clear)

    deed : deeds_by (Refs f) (Cas word (cleared word)) kinds.Ref (ref_write (Owned owner true count)) u.holdings ≡ Returns f ∷ []
    deed =
        ap (λ y. deeds_by (Refs f) (Cas word (cleared word)) kinds.Ref y u.holdings) (word_law read clear).1
        ∙ rw (when_eq word word refl, (owned_says word owner true count read).mark, (owned_says (cleared word) owner false count (cleared_read read clear)).mark) refl

    pub given_serves : (x : PortValue) → Serves w x (of_back f) [] → Serves v x (of_return f owner) (Returns f ∷ [])
    given_serves x back =
        serves_back v w x (of_return f owner) (Returns f ∷ []) [] (subst (λ ds. Serves v w (of_return f owner) (ds ++ [])) deed (tried read clear)) f (of owner None (asks_itself _ _ f owner _)) back

    pub given_does : (x : PortValue) → Puts w x f → Does v x (λ vs. ReturnsBy v.post.machine owner f (Ok tt) vs)
    given_does x back =
        does_as v x _ (λ vs. ReturnsBy v.post.machine owner f (Ok tt) vs) (λ vs steps. (word, refusal_is v.post.machine owner f word true real (own read clear), steps))
        (does_then v w x (Clears f word word) (PutBy f) (subst (λ y. Does v w (Clears f word y)) (word_law read clear).1 (cleared_does read clear)) back)

    cleared_left : (y : ℕ) → y ≡ word → left_by (Cas word (cleared word)) y ≡ left_by (Store (cleared y)) y
    unfolding left_by
    cleared_left y at = rw (when_eq y word at) (ap cleared (sym at))

    pub given_plain : (x : PortValue) → (is_telling w ≡ true → Leaves x (put f (told_word w))) → TwinReturn v x owner f (Ok tt)
    given_plain x back telling =
        let m : Words = told_word v in
        let at : m (Refs f) ≡ word = told_there v u (Refs f) Load kinds.Look None word look telling in
        let on = moves_telling v u (Refs f) Load kinds.Look None word look ∙ telling in
        let all : Leaves w (change (Cas word (cleared word)) (Refs f) m) =
        leaves_then u w (Cas word (cleared word)) (Refs f) m (load_tells v u (Refs f) kinds.Look None word look telling) (leaves u w (Refs f) _ kinds.Ref None word off_step on) in
        let words : told_word w ≡ change (Store (cleared (m (Refs f)))) (Refs f) m = (λ i q. (all q ∙ ap (λ y. if is_same q (Refs f) then y else m q) (cleared_left (m (Refs f)) at)) i) in (
          ap (return_refusal v.post.machine owner f) at ∙ refusal_is v.post.machine owner f word true real (own read clear),
          λ q. back (moves_telling u w (Refs f) _ kinds.Ref None word off_step ∙ on) q ∙ ap (λ (n : Words). put f n q) words,
        )
