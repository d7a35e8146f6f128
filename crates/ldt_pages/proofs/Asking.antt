-- What the touch of a page asks: of the frame to which the walk leads, and by the numbers that were found.
use Rattle.std.proofs.Common.{◌≡◌, ℕ, ◌≤◌, true, false, Some, rules, refl, sym, ap, subst, inl, inr}
use Rattle.std.proofs.Math.Nat.{le_refl}
use Rattle.xp_words.specs.ContextWords.{ldt_read}
use Rattle.xp_words.specs.Entries.{frame_of}
use Rattle.xp_words.specs.Machine.{Machine}
use Rattle.xp_words.specs.declared.context.LdtBase.{LdtBase}
use Rattle.xp_words.specs.declared.place.Place.TheVariants.{Cell}
use Rattle.xp_words.specs.declared.reply.Pause.TheVariants as pauses
use Rattle.xp_words.specs.declared.reply.Refusal.TheVariants as refusals
use Rattle.xp_words.specs.declared.reply.Stop.{Stop}
use Rattle.xp_words.specs.declared.reply.Stop.TheVariants.{Paused, Refused}
use Rattle.xp_board.specs.declared.holdings.Work.{Work}
use Rattle.xp_board.specs.Hands.{refs_to, typed_to}
use Rattle.xp_board.specs.Lists.{times_by}
use Rattle.xp_board.specs.Told.{PortValue}
use Rattle.step_maker.specs.Holds.{FlushedSame, Rests}
use Rattle.step_maker.specs.Moves.{Moment}
use Rattle.step_maker.specs.Asked.{IsNaming, NoMore, Within, walked}
use Rattle.step_maker.specs.Finding.{Finding, FoundAt}
use Rattle.step_maker.proofs.Grown.{grown_by}
use Rattle.step_maker.proofs.Later.{IsUncounted}
use Rattle.step_maker.proofs.Resting.{none_on}
use Rattle.step_maker.proofs.Piecing.{same_frame}
use Rattle.desc_pages.specs.Pages.{IsDescAside, IsDescStop, of_desc}
use Rattle.tlb_walks.specs.Addresses.{walk_refusal}
use Rattle.tlb_walks.specs.Asking.{IsWalkStop}
use Rattle.ldt_pages.specs.Touching.{IsTouchStop, is_beyond, of_touch, touch_address, touch_refusal}

-- ---- by the numbers
pub beyond_numbers : (page base : ℕ) (b : LdtBase) → ldt_read base ≡ Some b → is_beyond page b ≡ true → touch_refusal page base ≡ Some refusals.BadRange
beyond_numbers page base b reads past = rw (reads, past) refl

pub walk_numbers : (page base : ℕ) (b : LdtBase) → ldt_read base ≡ Some b → is_beyond page b ≡ false → touch_refusal page base ≡ walk_refusal (touch_address page b)
walk_numbers page base b reads within = rw (reads, within) refl

-- ---- the frame to which the walk leads

no_naming : (f d : ℕ) → IsNaming (of_desc f d) → ⊥
no_naming f d (inl a) = absurd cc
no_naming f d (inr (inl a)) = absurd cc
no_naming f d (inr (inr a)) = absurd (let b = a.1 in cc)

module _ (n : Machine) (s d page base t i entry : ℕ) (F G : Finding) (more : (m : Moment) → F m → G m) (found : FoundAt G (Cell t i) entry) where
  pub within_touch : Within n s (of_desc (frame_of entry) d) F (of_touch d page base) G
  within_touch =
      grown_by n s (of_desc (frame_of entry) d) (of_touch d page base) F G more (search rules) (record { owner = refl; pages_of = refl })
      (λ g is k less. walked t i entry refl found (same_frame g (frame_of entry) is) refl less) (λ any g is. absurd (no_naming (frame_of entry) d any)) (λ g none. absurd cc)

-- ---- what is in hand counts no more than before
pub none_more : (v x : PortValue) (d page base : ℕ) → Rests v → FlushedSame v x → NoMore (of_touch d page base) x.holdings v.holdings
none_more v x d page base rests same g =
    record {
      refs = λ apart. subst (λ rs. refs_to g rs ≤ refs_to g v.holdings.refs) (sym (ap (λ (q : PortValue). q.holdings.refs) same)) (le_refl (refs_to g v.holdings.refs));
      works = λ off. none_on (λ (y : Work). y.frame) g v.holdings.works rests.empty.works;
      typed = λ off. absurd cc;
    }

-- ---- why it stops
pub walk_kind : (e : Stop) → IsWalkStop e → IsTouchStop e
walk_kind (Refused refusals.NonCanonical) is = tt
walk_kind (Refused (refusals.Slot i)) is = tt
walk_kind (Refused (refusals.NotMapped level entry)) is = tt
walk_kind (Paused (pauses.Lost place expected found)) is = tt
walk_kind _ is = absurd is

pub walk_uncounted : (e : Stop) → IsWalkStop e → IsUncounted e
walk_uncounted (Refused refusals.NonCanonical) is = tt
walk_uncounted (Refused (refusals.Slot i)) is = tt
walk_uncounted (Refused (refusals.NotMapped level entry)) is = tt
walk_uncounted (Paused (pauses.Lost place expected found)) is = tt
walk_uncounted _ is = absurd is

pub desc_kind : (e : Stop) → IsDescStop e → IsTouchStop e
desc_kind (Refused (refusals.NoFrame f)) is = tt
desc_kind (Refused (refusals.WrongOwner f found)) is = tt
desc_kind (Refused (refusals.CountFull f found)) is = tt
desc_kind (Refused (refusals.OtherType f want found)) is = tt
desc_kind (Refused (refusals.BadDescriptor f i word)) is = tt
desc_kind (Refused (refusals.Clock found)) is = tt
desc_kind (Paused (pauses.Lost place expected found)) is = tt
desc_kind (Paused (pauses.Busy f found)) is = tt
desc_kind (Paused (pauses.Flush vcpu stamp found)) is = tt
desc_kind _ is = absurd is

-- ---- no typed reference is in hand
pub none_aside : (x : PortValue) (f : ℕ) → Rests x → IsDescAside x f
unfolding times_by
none_aside x f rests = inl (ap (λ ys. typed_to f ys) rests.empty.typed)
