-- What single steps of a claim are in its list.
use Rattle.std.proofs.Common.{◌≡◌, ◌≢◌, ℕ, ◌+◌, ◌-◌, ◌/◌, ◌^◌, ◌<◌, ◌≤◌, true, List, length, slice_index, None, Err, Ok, refl, subst}
use Rattle.xp_words.specs.Machine.{Machine}
use Rattle.xp_words.specs.Places.{number, sizes_of}
use Rattle.xp_words.specs.RefWords.{ref_write}
use Rattle.xp_words.specs.declared.place.Place.{Place}
use Rattle.xp_words.specs.declared.place.Place.TheVariants.{Cell, M2p, Map, Pages, Refs}
use Rattle.xp_words.specs.declared.refs.RefWord.TheVariants.{Dying, Free, Owned}
use Rattle.xp_words.specs.declared.reply.Pause.TheVariants.{Lost}
use Rattle.xp_words.specs.declared.reply.Refusal.TheVariants.{DomainFull}
use Rattle.xp_words.specs.declared.reply.Stop.TheVariants.{Paused, Refused}
use Rattle.xp_board.specs.HintSteps.{map_bit}
use Rattle.xp_board.specs.declared.step.Act.{Act}
use Rattle.xp_board.specs.declared.step.Act.TheVariants.{Add, Cas, Load, Store}
use Rattle.xp_board.specs.declared.step.StepKind.TheVariants as kinds
use Rattle.xp_board.specs.Told.{PortValue}
use Rattle.step_maker.specs.Moves.{Moves}
use Rattle.step_maker.specs.Visits.{Does, Only, Then, usual_kind, visit}
use Rattle.step_maker.proofs.Visiting.{does_as, does_one, does_then}
use Rattle.frame_claims.specs.Found.{ChargedBy, Downwards, FreesOne, GivenBy, LoweredBy, NamedBy, OwnedBy, ScrubbedBy, ScrubsOne, TakenBy, TakesOne, Upwards, counts_pages, saw_pages}

-- a step, whatever word it finds
pub some_word : (v w : PortValue) (p : Place) (a : Act) (x : ℕ) → Moves v w p a (usual_kind p a) None x → Does v w (λ vs. (y : ℕ) × Only (visit p a y) vs)
some_word v w p a x m = does_as v w (Only (visit p a x)) (λ vs. (y : ℕ) × Only (visit p a y) vs) (λ vs is. (x, is)) (does_one v w p a (usual_kind p a) None x m)

-- ---- a frame is given
pub scrubbed_one : (u w : PortValue) (f i x : ℕ) → Moves u w (Cell f i) (Store 0) kinds.Cell None x → Does u w (λ vs. ScrubsOne f i vs)
scrubbed_one u w f i x m = some_word u w (Cell f i) (Store 0) x m

pub given_one : (v a b c w : PortValue) (d f g x y z : ℕ) → Does v a (λ vs. ScrubbedBy f vs) → Moves a b (M2p f) (Store g) kinds.M2p None x → Moves b c (Map (f / 64)) (Add (2 ^ 64 - map_bit f)) kinds.Hint None y →
    Moves c w (Refs f) (Store (ref_write (Owned d true 1))) kinds.Ref None z → Does v w (λ vs. GivenBy d f g vs)
given_one v a b c w d f g x y z scrubbed named lowered owned =
    does_then v a w (λ vs. ScrubbedBy f vs) (Then (NamedBy f g) (Then (LoweredBy f) (OwnedBy d f))) scrubbed
    (does_then a b w (λ vs. NamedBy f g vs) (Then (LoweredBy f) (OwnedBy d f)) (some_word a b (M2p f) (Store g) x named)
    (does_then b c w (λ vs. LoweredBy f vs) (λ vs. OwnedBy d f vs) (some_word b c (Map (f / 64)) (Add (2 ^ 64 - map_bit f)) y lowered) (some_word c w (Refs f) (Store (ref_write (Owned d true 1))) z owned)))

-- ---- frames are taken, or free again
pub frees_visit : (u w : PortValue) (first : ℕ) (stamps : List ℕ) (at x : ℕ) → Moves u w (Refs (first + at)) (Store (ref_write (Free (slice_index stamps at)))) kinds.Ref None x → Does u w (λ vs. FreesOne first stamps at vs)
unfolding ref_write
frees_visit u w first stamps at x m = some_word u w (Refs (first + at)) (Store (slice_index stamps at)) x m

pub takes_visit : (u w : PortValue) (d first : ℕ) (stamps : List ℕ) (at : ℕ) →
    Moves u w (Refs (first + at)) (Cas (ref_write (Free (slice_index stamps at))) (ref_write (Dying d))) kinds.Ref None (ref_write (Free (slice_index stamps at))) → Does u w (λ vs. TakesOne d first stamps at vs)
unfolding ref_write
takes_visit u w d first stamps at m = does_one u w (Refs (first + at)) (Cas (slice_index stamps at) (ref_write (Dying d))) kinds.Ref None (slice_index stamps at) m

pub lost_visits : (v u x w : PortValue) (n : Machine) (d first : ℕ) (stamps : List ℕ) (j place found : ℕ) → j < length stamps → place ≡ number (sizes_of n) (Refs (first + j)) →
    Does v u (λ vs. Downwards (TakesOne d first stamps) (length stamps) (j + 1) vs) →
    Moves u x (Refs (first + j)) (Cas (ref_write (Free (slice_index stamps j))) (ref_write (Dying d))) kinds.Ref None found → found ≢ ref_write (Free (slice_index stamps j)) →
    Does x w (λ vs. Upwards (FreesOne first stamps) (j + 1) (length stamps) vs) → Does v w (λ vs. TakenBy n d first stamps (Err (Paused (Lost place (slice_index stamps j) found))) vs)
unfolding ref_write
lost_visits v u x w n d first stamps j place found low at before m off after =
    let s = slice_index stamps j in
    does_as v w (Then (Downwards (TakesOne d first stamps) (length stamps) (j + 1)) (Then (Only (visit (Refs (first + j)) (Cas s (ref_write (Dying d))) found)) (Upwards (FreesOne first stamps) (j + 1) (length stamps))))
    (λ vs. TakenBy n d first stamps (Err (Paused (Lost place s found))) vs) (λ vs t. (j, low, at, refl, off, t))
    (does_then v u w (λ vs. Downwards (TakesOne d first stamps) (length stamps) (j + 1) vs) (Then (Only (visit (Refs (first + j)) (Cas s (ref_write (Dying d))) found)) (Upwards (FreesOne first stamps) (j + 1) (length stamps))) before
    (does_then u x w (Only (visit (Refs (first + j)) (Cas s (ref_write (Dying d))) found)) (λ vs. Upwards (FreesOne first stamps) (j + 1) (length stamps) vs)
    (does_one u x (Refs (first + j)) (Cas s (ref_write (Dying d))) kinds.Ref None found m) after))

-- ---- pages are counted
module _ (v a : PortValue) (n : Machine) (d k p : ℕ) (look : Moves v a (Pages d) Load kinds.Look None p) where
  pub full_visits : slice_index n.page_limit d < p + k → Does v a (λ vs. ChargedBy n d k (Err (Refused (DomainFull p))) vs)
  full_visits over = does_as v a (Only (saw_pages d p)) (λ vs. ChargedBy n d k (Err (Refused (DomainFull p))) vs) (λ vs is. (over, is)) (does_one v a (Pages d) Load kinds.Look None p look)

  module _ (w : PortValue) (x j : ℕ) (same : j ≡ k) (within : p + k ≤ slice_index n.page_limit d) (try : Moves a w (Pages d) (Cas p (p + j)) kinds.Pages None x) where
    pair : Does v w (Then (Only (saw_pages d p)) (Only (counts_pages d k p x)))
    pair =
        does_then v a w (Only (saw_pages d p)) (Only (counts_pages d k p x)) (does_one v a (Pages d) Load kinds.Look None p look)
        (subst (λ i. Does a w (Only (counts_pages d i p x))) same (does_one a w (Pages d) (Cas p (p + j)) kinds.Pages None x try))

    pub lost_count : (place : ℕ) → place ≡ number (sizes_of n) (Pages d) → x ≢ p → Does v w (λ vs. ChargedBy n d k (Err (Paused (Lost place p x))) vs)
    lost_count place at off =
        does_as v w (Then (Only (saw_pages d p)) (Only (counts_pages d k p x))) (λ vs. ChargedBy n d k (Err (Paused (Lost place p x))) vs) (λ vs t. (at, off, within, t)) pair

  pub counted : (w : PortValue) (j : ℕ) → j ≡ k → p + k ≤ slice_index n.page_limit d → Moves a w (Pages d) (Cas p (p + j)) kinds.Pages None p → Does v w (λ vs. ChargedBy n d k (Ok tt) vs)
  counted w j same within try =
      does_as v w (Then (Only (saw_pages d p)) (Only (counts_pages d k p p))) (λ vs. ChargedBy n d k (Ok tt) vs) (λ vs t. (p, within, t)) (pair w p j same within try)
