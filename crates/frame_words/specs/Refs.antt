-- Reference words, and what the steps on them leave in hand.
use Rattle.std.specs.Prelude.{◌≡◌, ◌≢◌, ℕ, ◌+◌, ◌<◌, ◌≤◌, List, ◌∷◌, length, Some, None, Result, Ok, Err}
use Rattle.xp_words.specs.Machine.{Machine}
use Rattle.xp_words.specs.RefWords.{ref_read, ref_write}
use Rattle.xp_words.specs.declared.reply.Refusal.{Refusal}
use Rattle.xp_words.specs.declared.reply.Pause.TheVariants.{Lost}
use Rattle.xp_words.specs.declared.reply.Refusal.TheVariants.{WrongOwner, CountFull, NoFrame}
use Rattle.xp_words.specs.declared.reply.Stop.{Stop}
use Rattle.xp_words.specs.declared.reply.Stop.TheVariants.{Refused, Paused}
use Rattle.step_maker.specs.Licences.{IsOwnedBy, IsFull}
use Rattle.xp_words.specs.declared.refs.RefWord.TheVariants.{Owned}
use Rattle.xp_board.specs.declared.holdings.Holdings.{Holdings}
use Rattle.xp_board.specs.declared.holdings.OwnerFound.TheVariants as owners
use Rattle.xp_board.specs.Hands.{refs_to}
use Rattle.xp_board.specs.RefSteps.{SparesClosing}
use Rattle.xp_board.specs.Told.{PortValue}
use Rattle.xp_board.specs.declared.step.Act.TheVariants.{Load, Cas}
use Rattle.xp_words.specs.Places.{number, sizes_of}
use Rattle.xp_words.specs.declared.place.Place.TheVariants.{Refs}
use Rattle.step_maker.specs.Visits.{Visit, visit, Does, Nothing, Only, Then}
use Rattle.frame_words.specs.Plain.{one_more, refer}
use Rattle.frame_words.specs.declared.rows.Open.{Open}

abbrev pub open_word : Open → ℕ
open_word o = ref_write (Owned o.owner o.allocated o.count)

abbrev pub raised_word : Open → ℕ
raised_word o = ref_write (Owned o.owner o.allocated (o.count + 1))

-- owned, with room for one reference more
pub record IsOpen (n : Machine) (o : Open) : Type 0 where
  pub owner : o.owner < length n.page_limit
  pub some : 0 < o.count
  pub below : o.count < n.limit

-- a reference whose owner this step found
abbrev pub took : ℕ → ℕ → Holdings → Holdings
took f owner h = record h { refs = record { frame = f; owner = owners.Of owner } ∷ h.refs }

-- an untyped reference may go out of the hand
pub record MayPut (f : ℕ) (h : Holdings) : Type 0 where
  pub held : 0 < refs_to f h.refs
  pub spares : SparesClosing f h

-- why a reference is refused for that owner, of a frame whose reference word is that one
abbrev pub RefusesWord : ℕ → ℕ → ℕ → ℕ → Refusal → Type 0
RefusesWord f owner limit w (WrongOwner frame found) = (frame ≡ f) × (found ≡ w) × (IsOwnedBy owner (ref_read w) → ⊥)
RefusesWord f owner limit w (CountFull frame found) = (frame ≡ f) × (found ≡ w) × IsFull owner limit (ref_read w)
RefusesWord f owner limit w _ = ⊥

-- why a reference is not to be had
abbrev pub IsRefStop : Stop → Type 0
IsRefStop (Refused (NoFrame f)) = Unit {0}
IsRefStop (Refused (WrongOwner f found)) = Unit {0}
IsRefStop (Refused (CountFull f found)) = Unit {0}
IsRefStop (Paused (Lost place expected found)) = Unit {0}
IsRefStop _ = ⊥

-- ---- by the words found
-- A reference is taken by a look at the word, and one exchange of it, which counts one more. Where it is not to be had there is the
-- look alone; of a frame that the machine has not there is none.
abbrev pub saw_refs : ℕ → ℕ → Visit
saw_refs f x = visit (Refs f) Load x

abbrev pub raises_refs : ℕ → ℕ → ℕ → Visit
raises_refs f x y = visit (Refs f) (Cas x (one_more x (ref_read x))) y

abbrev pub Raises : ℕ → ℕ → ℕ → List Visit → Type 0
Raises f x y vs = Then (Only (saw_refs f x)) (Only (raises_refs f x y)) vs

pub data UnreferredBy (n : Machine) (f owner : ℕ) (r : Refusal) (vs : List Visit) : Type 0 where
  outside : n.frames ≤ f → r ≡ NoFrame f → Nothing vs → UnreferredBy n f owner r vs
  refused : (x : ℕ) → f < n.frames → refer n owner f x ≡ Some r → Only (saw_refs f x) vs → UnreferredBy n f owner r vs

abbrev pub GetsBy : {A : Type 0} → Machine → ℕ → ℕ → Result A Stop → List Visit → Type 0
GetsBy n f owner (Ok g) vs = (x : ℕ) × (refer n owner f x ≡ None) × Raises f x x vs
GetsBy n f owner (Err (Refused r)) vs = UnreferredBy n f owner r vs
GetsBy n f owner (Err (Paused (Lost place expected found))) vs =
    (place ≡ number (sizes_of n) (Refs f)) × (refer n owner f expected ≡ None) × (found ≢ expected) × Raises f expected found vs
GetsBy n f owner (Err (Paused r)) vs = ⊥

abbrev pub Gets : {A : Type 0} → PortValue → PortValue → ℕ → ℕ → Result A Stop → Type 0
Gets v w f owner answer = Does v w (λ vs. GetsBy v.post.machine f owner answer vs)

-- A call that takes a reference first: that is not to be had, and the call stops so; or it is, and the rest is P.
pub data TakesFirst {A : Type 0} (n : Machine) (f owner : ℕ) (P : List Visit → Type 0) (answer : Result A Stop) (vs : List Visit) : Type 0 where
  stopped : (e : Stop) → answer ≡ Err e → GetsBy {A = ℕ} n f owner (Err e) vs → TakesFirst n f owner P answer vs
  had : Then (λ gs. GetsBy {A = ℕ} n f owner (Ok f) gs) P vs → TakesFirst n f owner P answer vs
