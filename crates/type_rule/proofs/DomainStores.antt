-- Dying and dead domains: stores of the kind word of a frame in work or closing.
use Rattle.std.proofs.Common.{◌≡◌, ◌≢◌, ℕ, ◌<◌, ◌==◌, ◌||◌, if◌then◌else◌, Bool, true, false, List, ◌∷◌, Some, IsTrue, refl, sym, ◌∙◌, ap, inl, inr, arith}
use Rattle.std.proofs.lemmas.Bool.{cases_Bool}
use Rattle.std.proofs.lemmas.Bool.Decides.{nat_tests}
use Rattle.xp_words.specs.declared.kind.KindWord.{KindWord}
use Rattle.xp_words.specs.KindWords.{kind_read, kind_fields}
use Rattle.xp_words.specs.Machine.{Machine}
use Rattle.xp_words.specs.declared.place.Place.{Place}
use Rattle.xp_words.specs.declared.place.Place.TheVariants.{Refs, Kind}
use Rattle.xp_words.specs.Places.{Sizes, sizes_of}
use Rattle.xp_board.specs.declared.step.Step.{Step}
use Rattle.xp_board.specs.declared.holdings.Work.{Work}
use Rattle.xp_board.specs.declared.holdings.Looking.{Looking}
use Rattle.xp_board.specs.declared.holdings.OwnerFound.{OwnerFound}
use Rattle.xp_board.specs.declared.holdings.OwnerFound.TheVariants as owners
use Rattle.xp_board.specs.declared.holdings.Holdings.{Holdings}
use Rattle.xp_board.specs.Lists.{Member}
use Rattle.xp_board.specs.Readings.{kind_at, is_closing, owner_of, domain_of}
use Rattle.xp_board.specs.Hands.{ref_to, typed_on, ref_owner, typed_owner}
use Rattle.xp_board.specs.Knowledge.{knows_owner}
use Rattle.xp_board.specs.KindSteps.{Form, Live, Partial, InWork, Dead, form_of, AllowsForm, after_form, kept_owner, looking_at, as_typed}
use Rattle.xp_board.specs.Sound.{Sound, KeptForNobody}
use Rattle.xp_board.proofs.KindForms.{live_form, partial_form, work_form, dead_form}
use Rattle.step_effects.proofs.ActEffects.{Stored}
use Rattle.type_rule.proofs.HandParts.{SameTwo, two_live, two_dead, three_as_typed}
use Rattle.type_rule.proofs.DomainLaw.{AllStopped, DomainChange}
use Rattle.type_rule.proofs.DomainWords.{change_by, not_stopped}
use Rattle.type_rule.proofs.DomainKinds.{kind_words, by_kept, or_true}
use Rattle.xp_board.proofs.FormsLeft.{is_live_left, is_partial_left, is_work_left, is_dead_left}
use Rattle.xp_board.proofs.Owners.{ref_knows, typed_knows}

left_pinned : (form : Form) (n : Machine) (f w : ℕ) (e : Work) (l : KindWord) (h : Holdings) → kind_read w ≡ Some l → form_of l ≡ form → AllowsForm form n f e l h → l.pinned ≡ false
left_pinned Live n f w e l h is at may = may.unpinned
left_pinned Partial n f w e l h is at may = let k = is_partial_left l at in (partial_form w l is k.0 k.1).unpinned
left_pinned InWork n f w e l h is at may = let k = is_work_left l at in (work_form w l is k.0 k.1 k.2).unpinned
left_pinned Dead n f w e l h is at may = let k = is_dead_left l at in (dead_form w l is k.0 k.1 k.2).unpinned

-- ---- the owner that the vCPU knows
or_first : (a t : Bool) → a ≡ true → (a || t) ≡ true
or_first a t e = rw e refl

or_second : (a t u : Bool) → t ≡ true → (a || (t || u)) ≡ true
or_second a t u e = rw e (or_true a)

kept_by : (t : Bool) (z : Sizes) (f o : ℕ) (h : Holdings) → (if t then ref_owner f h else typed_owner f h) ≡ owners.Of o → IsTrue (knows_owner z f o h)
unfolding knows_owner
kept_by true z f o h k = or_first _ _ (ref_knows z f o h (ref_to f h.refs) refl k)
kept_by false z f o h k = or_second _ _ _ (typed_knows z f o h (typed_on f h.typed) refl k)

pub kept_knows : (z : Sizes) (f o : ℕ) (e : Work) (h : Holdings) → kept_owner f e h ≡ owners.Of o → IsTrue (knows_owner z f o h)
kept_knows z f o e h k = kept_by (is_closing (kind_fields e.word)) z f o h k

-- ---- looking
more_by : (t : Bool) (y e : Looking) (xs : List Looking) → Member e xs → Member e (if t then xs else y ∷ xs)
unfolding Member
more_by true y e xs k = k
more_by false y e xs k = inr k

looks_more : (n : Machine) (s f new : ℕ) (o : OwnerFound) (h : Holdings) (e : Looking) → Member e h.looking → Member e (looking_at n s f new o h)
looks_more n s f new (owners.Of d) h e k = more_by (d == domain_of n s) _ e h.looking k
looks_more n s f new (owners.Since k) h e there = there

kept_looks : (t : Bool) (n : Machine) (s f new : ℕ) (o : OwnerFound) (h : Holdings) (e : Looking) → Member e h.looking →
    Member e (if t then looking_at n s f new o h else h.looking)
kept_looks true n s f new o h e k = looks_more n s f new o h e k
kept_looks false n s f new o h e k = k

looks_at : (n : Machine) (s f new d : ℕ) (o : OwnerFound) (h : Holdings) → o ≡ owners.Of d → d ≢ domain_of n s →
    Member (record { frame = f; owner = d; word = new }) (looking_at n s f new o h)
unfolding Member
looks_at n s f new d o h e off =
    let t : (d == domain_of n s) ≡ false = grind (arith, nat_tests) in
    rw e (rw t (inl refl))

module _ (n : Machine) (s : ℕ) (x : Step) (m m2 : Place → ℕ) (b c : ℕ → Holdings) (real : s < (sizes_of n).vcpus) (sound : Sound n m b)
    (others : (t : ℕ) → t ≢ s → c t ≡ b t) where
  -- a form that is not kept, and looks at the same
  plain_change : (f : ℕ) (form : Form) → (d : Stored n s x f form m m2 (b s) (c s)) → SameTwo (b s) (after_form form n s f d.e d.l (m2 (Kind f)) (b s)) → d.l.kept ≡ false →
      DomainChange n s x m m2 b c
  plain_change f form d two kept =
      change_by n s x m m2 b c others (Kind f) _ d.wrote.place d.wrote.left d.hand two.steps
      (kind_words n s x m m2 b c real sound others f d.wrote.others (λ g off e there at w alive. rw (ap (λ u. u.looking) d.hand ∙ two.looking) there)
      (record {
        unpinned = λ q all o u. ap (λ k. k.pinned) d.fields_is ∙ left_pinned form n f (m2 (Kind f)) d.e d.l (b s) d.is d.form_is d.may;
        unkept = λ q all o y. inl (by_kept (kind_at m2 f) (ap (λ k. k.kept) d.fields_is ∙ kept));
      }))

  partial_unkept : (f : ℕ) → (d : Stored n s x f Partial m m2 (b s) (c s)) → (q : ℕ) → AllStopped n m q → owner_of (m (Refs f)) ≡ Some q → KeptForNobody n m2 c q f
  partial_unkept f d q all o =
      elim (cases_Bool d.l.kept) [
        | inr off ↦ inl (by_kept (kind_at m2 f) (ap (λ k. k.kept) d.fields_is ∙ off))
        | inl on ↦
            (let keep = d.may.kept on in
            let known = (sound.found s real).owners f keep.owner (kept_knows (sizes_of n) f keep.owner d.e (b s) keep.known) in
            let own : keep.owner ≡ q = (let e : Some keep.owner ≡ Some q = sym known ∙ o in cc) in
            let other : keep.owner ≢ domain_of n s = (λ e. not_stopped n s x m m2 b c others sound real (d.wrote.running refl) q (sym e ∙ own) all) in
            let looking : (c s).looking ≡ looking_at n s f (m2 (Kind f)) (kept_owner f d.e (b s)) (as_typed f d.e (b s)) = ap (λ u. u.looking) d.hand ∙ rw on refl in
            inr
            (record {
              vcpu = s;
              real = real;
              looking = record { frame = f; owner = keep.owner; word = m2 (Kind f) };
              here = rw looking (looks_at n s f (m2 (Kind f)) keep.owner (kept_owner f d.e (b s)) (as_typed f d.e (b s)) keep.known other);
              frame = refl;
              owner = own;
              word = refl;
            }))
      ]

  partial_change : (f : ℕ) → Stored n s x f Partial m m2 (b s) (c s) → DomainChange n s x m m2 b c
  partial_change f d =
      let same = three_as_typed f d.e (b s) in
      change_by n s x m m2 b c others (Kind f) _ d.wrote.place d.wrote.left d.hand same.steps
      (kind_words n s x m m2 b c real sound others f d.wrote.others
      (λ g off e there at w alive. rw (ap (λ u. u.looking) d.hand) (kept_looks d.l.kept n s f (m2 (Kind f)) (kept_owner f d.e (b s)) (as_typed f d.e (b s)) e (rw same.looking there)))
      (record {
        unpinned = λ q all o u. ap (λ k. k.pinned) d.fields_is ∙ left_pinned Partial n f (m2 (Kind f)) d.e d.l (b s) d.is d.form_is d.may;
        unkept = λ q all o y. partial_unkept f d q all o;
      }))

  pub stored_change : (f : ℕ) (form : Form) → Stored n s x f form m m2 (b s) (c s) → DomainChange n s x m m2 b c
  stored_change f Live d = plain_change f Live d (two_live f d.l (b s)) ((live_form (m2 (Kind f)) d.l d.is (is_live_left d.l d.form_is)).unkept)
  stored_change f Partial d = partial_change f d
  stored_change f InWork d =
      let k = is_work_left d.l d.form_is in
      plain_change f InWork d (record { looking = refl; steps = refl }) ((work_form (m2 (Kind f)) d.l d.is k.0 k.1 k.2).unkept)
  stored_change f Dead d =
      let k = is_dead_left d.l d.form_is in
      plain_change f Dead d (two_dead f d.e (b s)) ((dead_form (m2 (Kind f)) d.l d.is k.0 k.1 k.2).unkept)
