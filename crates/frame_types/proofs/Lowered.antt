-- A type count given back: what its step shows, and what it leaves in hand.
use Rattle.std.proofs.Common.{◌≡◌, ℕ, ◌^◌, ◌<◌, ◌==◌, if◌then◌else◌, Bool, true, false, [], Some, None, IsTrue, refl, sym, ap, ◌∙◌, subst}
use Rattle.xp_words.specs.KindWords.{kind_fields}
use Rattle.xp_words.specs.declared.kind.KindWord.{KindWord}
use Rattle.xp_words.specs.declared.kind.PageType.{PageType}
use Rattle.xp_words.specs.declared.place.Place.TheVariants.{Kind}
use Rattle.xp_words.specs.Places.{sizes_of}
use Rattle.xp_board.specs.declared.holdings.Holdings.{Holdings}
use Rattle.xp_board.specs.declared.step.Act.TheVariants.{Add}
use Rattle.xp_board.specs.declared.step.StepKind.TheVariants as kinds
use Rattle.xp_board.specs.Acts.{left_by}
use Rattle.xp_board.specs.Hands.{work_on}
use Rattle.xp_board.specs.KindSteps.{MayDrop, dropped}
use Rattle.xp_board.specs.Knowledge.{knows_live}
use Rattle.xp_board.specs.Readings.{is_closing}
use Rattle.xp_board.specs.RefSteps.{one_down}
use Rattle.xp_board.specs.Told.{PortValue, is_telling, told_word}
use Rattle.step_maker.specs.Holds.{Holds, still}
use Rattle.step_maker.specs.Moves.{Moves}
use Rattle.step_maker.specs.Plain.{Leaves, change}
use Rattle.step_maker.proofs.Telling.{leaves}
use Rattle.step_maker.specs.Answers.{Serves}
use Rattle.step_maker.specs.Asked.{of_back}
use Rattle.step_maker.proofs.Piecing.{moves_serves}
use Rattle.frame_words.proofs.Taking.{backs_itself}
use Rattle.kind_words.proofs.KindFacts.{IsFoundLive, found_live}
use Rattle.kind_words.proofs.KindHands.{closes, lowered_fields, lowered_last, lowered_more, work_here}
use Rattle.frame_types.specs.Lowering.{DropsType, LowersFrom, closing_from, closing_in, uncounted}

module _ (v a : PortValue) (f found : ℕ) (lower : Moves v a (Kind f) (Add one_down) kinds.Kind None found) where
  pub lowers : Serves v a (of_back f) []
  lowers = moves_serves v a (of_back f) _ _ _ _ _ lower (backs_itself v.post.machine v.post.vcpu f _)

  pub lowered_words : is_telling v ≡ true → Leaves a (change (Add one_down) (Kind f) (told_word v))
  lowered_words telling = leaves v a (Kind f) (Add one_down) kinds.Kind None found lower telling

  -- ---- the hand
  pub dropped_hand : Holds v a (dropped f found (left_by (Add one_down) found) v.holdings)
  dropped_hand = ap still lower.to

  hand_by : (b : Bool) → ((kind_fields found).number == 1) ≡ b → Holds v a (if b then closing_in f found v.holdings else uncounted f v.holdings)
  hand_by true last = dropped_hand ∙ ap (λ (h : Holdings). still (record v { holdings = h })) (lowered_last f found _ v.holdings last)
  hand_by false more = dropped_hand ∙ ap (λ (h : Holdings). still (record v { holdings = h })) (lowered_more f found _ v.holdings more)

  lowers_from : MayDrop v.post.machine f v.holdings → LowersFrom v a f found
  lowers_from drops =
      let is = found_live v.post.machine v.post.vcpu v.holdings f found lower.finds drops in
      record { step = lower; live = is.live; counted = is.some; unmarked = is.unmarked; kind = is.kind; apart = is.apart }

  pub drops_type : (last : Bool) → last ≡ ((kind_fields found).number == 1) → MayDrop v.post.machine f v.holdings → DropsType v a f last
  drops_type last counts drops = record { found = found; lowers = lowers_from drops; counts = counts; hand = hand_by last (sym counts) }

-- ---- what a caller knows of the frame
module _ (v a : PortValue) (f : ℕ) (last : Bool) (d : DropsType v a f last) where
  found_kind : IsFoundLive v.post.machine f d.found v.holdings
  found_kind =
      let finds = d.lowers.step.finds in
      record {
        small = subst (λ y. y < 2 ^ 64) finds.word (finds.sound.spelled.small (Kind f));
        live = d.lowers.live;
        some = d.lowers.counted;
        unmarked = d.lowers.unmarked;
        kind = d.lowers.kind;
        apart = d.lowers.apart;
      }

  -- other type counts are left
  pub type_counted : last ≡ false → Holds v a (uncounted f v.holdings)
  type_counted more = subst (λ b. Holds v a (if b then closing_in f d.found v.holdings else uncounted f v.holdings)) more d.hand

  -- none is left: the frame is closing, with its type and no mark
  module _ (none : last ≡ true) where
    pub type_closed : Holds v a (closing_in f d.found v.holdings)
    type_closed = subst (λ b. Holds v a (if b then closing_in f d.found v.holdings else uncounted f v.holdings)) none d.hand

    pub closed_here : work_on f a.holdings.works ≡ Some (closing_from f d.found v.holdings)
    closed_here = work_here f (closing_from f d.found v.holdings) v.holdings.works a.holdings.works refl (ap (λ (q : PortValue). q.holdings.works) type_closed)

    pub closed_fields : kind_fields (closing_from f d.found v.holdings).word ≡ record (kind_fields d.found) { number = 0 }
    closed_fields = lowered_fields v.post.machine f d.found v.holdings found_kind (sym d.counts ∙ none)

    pub closed_is : IsTrue (is_closing (kind_fields (closing_from f d.found v.holdings).word))
    closed_is = rw closed_fields (closes (kind_fields d.found) d.lowers.live)

    pub closed_unmarked : (kind_fields (closing_from f d.found v.holdings).word).unflushed ≡ false
    closed_unmarked = ap (λ (k : KindWord). k.unflushed) closed_fields ∙ d.lowers.unmarked

    pub closed_kind : (t : PageType) → IsTrue (knows_live (sizes_of v.post.machine) f t v.holdings) → (kind_fields (closing_from f d.found v.holdings).word).kind ≡ t
    closed_kind t knows = ap (λ (k : KindWord). k.kind) closed_fields ∙ d.lowers.kind t knows
