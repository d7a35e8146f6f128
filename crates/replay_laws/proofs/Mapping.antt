-- A machine-to-physical word that no deed sets stays, where the call takes no pages.
use Rattle.std.proofs.Common.{◌≡◌, ◌≢◌, ℕ, ◌<◌, ◌++◌, Bool, true, false, not, ◌||◌, nat_lt, if◌then◌else◌, List, [], ◌∷◌, Option, Some, None, refl, sym, ap, ◌∙◌, subst, inl, inr, IsTrue}
use Rattle.std.proofs.lemmas.Bool.{cases_Bool}
use Rattle.xp_words.specs.Machine.{Machine}
use Rattle.xp_words.specs.declared.place.Place.{Place}
use Rattle.xp_words.specs.declared.place.Place.TheVariants.{M2p, Refs}
use Rattle.xp_board.specs.declared.holdings.Holdings.{Holdings}
use Rattle.xp_board.specs.declared.step.Act.{Act}
use Rattle.xp_board.specs.declared.step.Act.TheVariants.{Load, Cas, Store, Add, Max}
use Rattle.xp_board.specs.declared.step.Mark.{Mark}
use Rattle.xp_board.specs.declared.step.StepKind.{StepKind}
use Rattle.xp_board.specs.declared.step.StepKind.TheVariants as steps
use Rattle.xp_board.specs.Acts.{left_by}
use Rattle.xp_board.specs.Hands.{claims_of, hand}
use Rattle.xp_board.specs.Legal.{LegalAs}
use Rattle.xp_board.specs.Lists.{EachOf, Member, times_by}
use Rattle.xp_board.specs.Marks.{after_mark}
use Rattle.xp_board.specs.Readings.{is_free}
use Rattle.xp_board.specs.Told.{Post, PortValue, is_telling, told_word}
use Rattle.xp_board.proofs.PlaceTests.{same_or_other}
use Rattle.step_maker.specs.Answers.{Deed, Serves, SetsM2p, deeds, deeds_by, marked_by, only_if, stored_as}
use Rattle.step_maker.specs.Asked.{Request}
use Rattle.step_maker.specs.Finding.{Finding}
use Rattle.step_maker.specs.Moves.{Moment, Met, MovesBy, Ran}
use Rattle.step_maker.specs.Reasons.{HasReason}
use Rattle.step_maker.proofs.Coming.{ran_post}
use Rattle.step_maker.proofs.Members.{in_left, in_right}
use Rattle.step_maker.proofs.Telling.{ran_telling, told_elsewhere, told_here, told_there}
use Rattle.replay_laws.proofs.Unclaimed.{IsUnclaimed, TakesNoFree, TakesNoFreeAt, by_move}

-- ---- what a step may do there
no_exchange : (n : Machine) (s f e x : ℕ) (h : Holdings) (mark : Option Mark) (by : StepKind) → LegalAs n s h (M2p f) (Cas e x) mark by → ⊥
no_exchange n s f e x h mark steps.Look legal = legal
no_exchange n s f e x h mark by legal = absurd legal

no_sum : (n : Machine) (s f x : ℕ) (h : Holdings) (mark : Option Mark) (by : StepKind) → LegalAs n s h (M2p f) (Add x) mark by → ⊥
no_sum n s f x h mark steps.Look legal = legal
no_sum n s f x h mark by legal = absurd legal

no_maximum : (n : Machine) (s f x : ℕ) (h : Holdings) (mark : Option Mark) (by : StepKind) → LegalAs n s h (M2p f) (Max x) mark by → ⊥
no_maximum n s f x h mark steps.Look legal = legal
no_maximum n s f x h mark by legal = absurd legal

-- a store by one who claims nothing is a deed
shown : (f x : ℕ) (h : Holdings) → IsUnclaimed h → Member (SetsM2p f x) (only_if (nat_lt 0 (hand f h) || not (nat_lt 0 (claims_of f h.claimed))) (SetsM2p f x))
unfolding Member times_by
shown f x h none = elim (cases_Bool (nat_lt 0 (hand f h))) [
  | inl held ↦ rw (held) (inl refl)
  | inr off ↦ rw (off, none) (inl refl)
]

stores : (f found x : ℕ) (h : Holdings) (by : StepKind) → IsUnclaimed h → Member (SetsM2p f x) (stored_as by (M2p f) found x h)
stores f found x h steps.Guest none = shown f x h none
stores f found x h by none = shown f x h none

stays_by : (n : Machine) (s f found : ℕ) (ds : List Deed) (b h : Holdings) (mark : Option Mark) (by : StepKind) (a : Act) → IsUnclaimed h → ((x : ℕ) → Member (SetsM2p f x) ds → ⊥) → LegalAs n s b (M2p f) a mark by →
    ((d : Deed) → Member d (deeds_by (M2p f) a by found h) → Member d ds) → left_by a found ≡ found
unfolding left_by
stays_by n s f found ds b h mark by Load none unset legal seen = refl
stays_by n s f found ds b h mark by (Cas e x) none unset legal seen = absurd (no_exchange n s f e x b mark by legal)
stays_by n s f found ds b h mark by (Store x) none unset legal seen = absurd (unset x (seen (SetsM2p f x) (stores f found x h by none)))
stays_by n s f found ds b h mark by (Add x) none unset legal seen = absurd (no_sum n s f x b mark by legal)
stays_by n s f found ds b h mark by (Max x) none unset legal seen = absurd (no_maximum n s f x b mark by legal)

-- ---- no free frame is taken
no_pages : (e : ℕ) (o : Option ℕ) → o ≡ None → (is_free e ≡ true → (k : ℕ) × (o ≡ Some k)) → is_free e ≡ false
no_pages e o none why = elim (cases_Bool (is_free e)) [
  | inl free ↦ absurd (let k = (why free).1 in cc)
  | inr off ↦ off
]

takes_none : (n : Machine) (s : ℕ) (r : Request) (F : Finding) (f : ℕ) (a : Act) (x : ℕ) (h : Holdings) → r.pages ≡ None → HasReason n s r F (Refs f) a x h → TakesNoFree a
takes_none n s r F f (Cas e w) x h none why = no_pages e r.pages none why.1
takes_none n s r F f Load x h none why = tt
takes_none n s r F f (Store w) x h none why = tt
takes_none n s r F f (Add w) x h none why = tt
takes_none n s r F f (Max w) x h none why = tt

takes_none_at : (n : Machine) (s : ℕ) (r : Request) (F : Finding) (p : Place) (a : Act) (x : ℕ) (h : Holdings) → r.pages ≡ None → HasReason n s r F p a x h → TakesNoFreeAt p a
takes_none_at n s r F p a x h none why f is = takes_none n s r F f a x h none (subst (λ q. HasReason n s r F q a x h) is why)

-- ---- all steps
module _ (v : PortValue) (r : Request) (F : Finding) (ds : List Deed) (f : ℕ) (none : r.pages ≡ None) (unset : (x : ℕ) → Member (SetsM2p f x) ds → ⊥) (telling : is_telling v ≡ true) (unclaimed : IsUnclaimed v.holdings) where
  one_step : (u w : PortValue) (m : Moment) → MovesBy u w m → HasReason v.post.machine v.post.vcpu r F m.place m.act m.found m.hand → IsUnclaimed u.holdings → IsUnclaimed w.holdings
  one_step u w m by why e =
      subst (λ (y : PortValue). IsUnclaimed y.holdings) (sym by.moves.to)
      (by_move u.post.machine u.post.vcpu u.holdings m.place m.act m.kind m.mark m.found (takes_none_at v.post.machine v.post.vcpu r F m.place m.act m.found m.hand none why) e)

  at_word : (u w : PortValue) (ms : List Moment) (m : Moment) → Ran v ms u → MovesBy u w m → M2p f ≡ m.place → IsUnclaimed u.holdings → ((d : Deed) → Member d (deeds_by m.place m.act m.kind m.found m.hand) → Member d ds) → told_word w (M2p f) ≡ told_word u (M2p f)
  at_word u w ms m ran by here e seen =
      let tells : is_telling u ≡ true = ran_telling v u ms ran ∙ telling in
      let legal = subst (λ p. LegalAs u.post.machine u.post.vcpu (after_mark u.post.machine m.mark u.holdings) p m.act m.mark m.kind) (sym here) by.moves.may.act in
      let same = stays_by u.post.machine u.post.vcpu f m.found ds _ m.hand m.mark m.kind m.act (subst IsUnclaimed (sym by.hand) e) unset legal (λ d at. seen d (subst (λ p. Member d (deeds_by p m.act m.kind m.found m.hand)) here at)) in
      ap (told_word w) here ∙ told_here u w m.place m.act m.kind m.mark m.found by.moves tells ∙ same
      ∙ sym (told_there u w m.place m.act m.kind m.mark m.found by.moves tells) ∙ ap (told_word u) (sym here)

  all_stay : (w : PortValue) (ms : List Moment) → Ran v ms w → EachOf (λ m. HasReason v.post.machine v.post.vcpu r F m.place m.act m.found m.hand) ms → ((d : Deed) → Member d (deeds ms) → Member d ds) → IsUnclaimed w.holdings × (told_word w (M2p f) ≡ told_word v (M2p f))
  unfolding EachOf
  all_stay w [] ran why seen = (subst (λ (y : PortValue). IsUnclaimed y.holdings) (sym ran) unclaimed, ap (λ (y : PortValue). told_word y (M2p f)) ran)
  all_stay w (m ∷ ms) ran why seen =
      let before = all_stay ran.0 ms ran.1 why.1 (λ d at. seen d (in_right d (marked_by m.mark) _ (in_right d _ (deeds ms) at))) in (
        one_step ran.0 w m ran.2 why.0 before.0,
        elim (same_or_other (M2p f) m.place) [
          | inl here ↦ at_word ran.0 w ms m ran.1 ran.2 here before.0 (λ d at. seen d (in_right d (marked_by m.mark) _ (in_left d _ (deeds ms) at))) ∙ before.1
          | inr off ↦ told_elsewhere ran.0 w m.place m.act m.kind m.mark m.found ran.2.moves (M2p f) off ∙ before.1
        ],
      )

pub map_stays : (v w : PortValue) (r : Request) (ds : List Deed) (f : ℕ) → is_telling v ≡ true → Serves v w r ds → v.holdings.claimed ≡ [] → r.pages ≡ None → ((x : ℕ) → Member (SetsM2p f x) ds → ⊥) → told_word w (M2p f) ≡ told_word v (M2p f)
unfolding Serves
map_stays v w r ds f telling serves unclaimed none unset =
    (all_stay v r (Met v w) ds f none unset telling unclaimed w serves.0 serves.1.ran serves.1.reasons (λ d at. subst (λ es. Member d es) serves.1.deeds_are at)).1
