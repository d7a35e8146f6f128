-- Dying and dead domains: acts on the kind word of a frame.
use Rattle.std.proofs.Common.{◌≡◌, ◌≢◌, ℕ, ◌<◌, ◌==◌, ◌||◌, ◌⊎◌, not, Bool, true, false, List, [], ◌∷◌, Some, IsTrue, refl, sym, ◌∙◌, ap, subst, inl, inr, arith}
use Rattle.std.proofs.lemmas.Bool.{cases_eq}
use Rattle.std.proofs.lemmas.Bool.Decides.{nat_tests}
use Rattle.xp_words.specs.declared.kind.KindWord.{KindWord}
use Rattle.xp_words.specs.KindWords.{kind_read}
use Rattle.xp_words.specs.Machine.{Machine}
use Rattle.xp_words.specs.declared.place.Place.{Place}
use Rattle.xp_words.specs.declared.place.Place.TheVariants.{Vcpu, Refs, Kind}
use Rattle.xp_words.specs.Places.{sizes_of, run_of}
use Rattle.xp_board.specs.declared.step.Step.{Step}
use Rattle.xp_board.specs.declared.holdings.Looking.{Looking}
use Rattle.xp_board.specs.declared.holdings.Holdings.{Holdings}
use Rattle.xp_board.specs.Lists.{Member, EachOf}
use Rattle.xp_board.specs.Readings.{kind_at, is_partial, owner_of, domain_of}
use Rattle.xp_board.specs.KindSteps.{KindRow, Count, Locks, Pin, Unpin, Resume, TakeBack, Begin, AllowsKindRow, still_looking}
use Rattle.xp_board.specs.WellFormed.{IsLookingFormed}
use Rattle.xp_board.specs.Sound.{Sound, KeptForNobody}
use Rattle.xp_board.proofs.KindForms.{live_form}
use Rattle.step_effects.proofs.ActEffects.{Turned, Missed, Dropped, Unlocked}
use Rattle.type_rule.proofs.HandParts.{two_row}
use Rattle.type_rule.proofs.DomainLaw.{AllStopped, DomainWords, DomainChange}
use Rattle.type_rule.proofs.DomainWords.{LooksOn, kept_after, kept_member, change_by, not_stopped, same_words}
use Rattle.xp_board.proofs.CountsDown.{drop_live, drop_word, lock_live, unlock_word}

-- ---- looking
member_each : (P : Looking → Type 0) (e : Looking) (xs : List Looking) → EachOf P xs → Member e xs → P e
unfolding EachOf Member
member_each P e [] all k = absurd k
member_each P e (y ∷ ys) all (inl at) = subst P at all.0
member_each P e (y ∷ ys) all (inr there) = member_each P e ys all.1 there

pub or_true : (t : Bool) → (t || true) ≡ true
or_true true = refl
or_true false = refl

-- an exchange on another frame, or that leaves the word there, does not end it
pub still_member : (f left : ℕ) (e : Looking) (xs : List Looking) → Member e xs → (e.frame ≢ f) ⊎ (e.word ≡ left) → Member e (still_looking f left xs)
still_member f left e xs there (inl off) = kept_member _ e xs there (let t : (e.frame == f) ≡ false = grind (arith, nat_tests) in rw t refl)
still_member f left e xs there (inr at) = kept_member _ e xs there (let t : (e.word == left) ≡ true = grind (arith, nat_tests) in rw t (or_true (not (e.frame == f))))

pub by_kept : (k : KindWord) → k.kept ≡ false → IsTrue (not k.kept)
by_kept k e = rw e refl

by_pinned : (k : KindWord) → k.pinned ≡ false → IsTrue (not k.pinned)
by_pinned k e = rw e refl

pinned_by : (k : KindWord) → IsTrue (not k.pinned) → k.pinned ≡ false
pinned_by k e = grind arith

-- ---- what an exchange leaves
left_unkept : (row : KindRow) (n : Machine) (s f : ℕ) (w : ℕ) (k l : KindWord) (h : Holdings) → kind_read w ≡ Some k → AllowsKindRow row n s f k l h → l.kept ≡ false
left_unkept Count n s f w k l h e may = rw may.left ((live_form w k e may.live).unkept)
left_unkept Locks n s f w k l h e may = rw may.left ((live_form w k e may.live).unkept)
left_unkept Pin n s f w k l h e may = rw may.left ((live_form w k e may.live).unkept)
left_unkept Unpin n s f w k l h e may = rw may.left ((live_form w k e may.live).unkept)
left_unkept Resume n s f w k l h e may = rw may.left refl
left_unkept TakeBack n s f w k l h e may = rw may.left refl
left_unkept Begin n s f w k l h e may = ap (λ y. y.kept) may.left

module _ (n : Machine) (s : ℕ) (x : Step) (m m2 : Place → ℕ) (b c : ℕ → Holdings) (real : s < (sizes_of n).vcpus) (sound : Sound n m b)
    (others : (t : ℕ) → t ≢ s → c t ≡ b t) where
  -- what has to be shown of the word of frame f
  pub record KindKept (f : ℕ) : Type 0 where
    pub unpinned : (d : ℕ) → AllStopped n m d → owner_of (m (Refs f)) ≡ Some d → (kind_at m f).pinned ≡ false → (kind_at m2 f).pinned ≡ false
    pub unkept : (d : ℕ) → AllStopped n m d → owner_of (m (Refs f)) ≡ Some d → KeptForNobody n m b d f → KeptForNobody n m2 c d f

  pub kind_words : (f : ℕ) → ((q : Place) → q ≢ Kind f → m2 q ≡ m q) → ((g : ℕ) → g ≢ f → LooksOn n s x m m2 b c others g) → KindKept f → DomainWords n m m2 b c
  kind_words f same looks k =
      record {
        stopped = λ v e. same (run_of v) (λ q. cc) ∙ e;
        empty = λ v j u e z. same (Vcpu v j) (λ q. cc) ∙ z;
        owners = λ d g all e. sym (ap owner_of (same (Refs g) (λ q. cc))) ∙ e;
        unallocated = λ d g all o u. rw (same (Refs g) (λ q. cc)) u;
        unpinned = λ d g all o u. elim (cases_eq g f) [
          | inl at ↦ rw at (by_pinned (kind_at m2 f) (k.unpinned d all (rw at at o) (pinned_by (kind_at m f) (rw at at u))))
          | inr off ↦ rw (same (Kind g) (λ q. off (cc))) u
        ];
        unkept = λ d g gone all o y. elim (cases_eq g f) [
          | inl at ↦ rw at (k.unkept d all (rw at at o) (rw at at y))
          | inr off ↦ kept_after n s x m m2 b c others d g gone (same (Kind g) (λ q. off (cc))) (looks g off) y
        ];
      }

  running : (b s).run ≡ Some 0 → (d : ℕ) → domain_of n s ≡ d → AllStopped n m d → ⊥
  running e d own all = not_stopped n s x m m2 b c others sound real e d own all

  -- ---- exchanges
  turned_pinned : (row : KindRow) (f : ℕ) (k l : KindWord) (d : ℕ) → (b s).run ≡ Some 0 → AllowsKindRow row n s f k l (b s) → AllStopped n m d →
      owner_of (m (Refs f)) ≡ Some d → k.pinned ≡ false → l.pinned ≡ false
  turned_pinned Count f k l d run may all o u = rw may.left u
  turned_pinned Locks f k l d run may all o u = rw may.left u
  turned_pinned Pin f k l d run may all o u =
      let own = (sound.found s real).owners f (domain_of n s) may.own in
      absurd (running run d (let q : Some (domain_of n s) ≡ Some d = sym own ∙ o in cc) all)
  turned_pinned Unpin f k l d run may all o u = rw may.left refl
  turned_pinned Resume f k l d run may all o u = rw may.left u
  turned_pinned TakeBack f k l d run may all o u = rw may.left u
  turned_pinned Begin f k l d run may all o u = ap (λ y. y.pinned) may.left

  pub turned_change : (f : ℕ) (row : KindRow) → Turned n s x f row m m2 (b s) (c s) → DomainChange n s x m m2 b c
  turned_change f row d =
      let h1 : Holdings = record (b s) { looking = still_looking f (m2 (Kind f)) (b s).looking } in
      let two = two_row row f d.k d.l (m2 (Kind f)) h1 in
      let looking : (c s).looking ≡ still_looking f (m2 (Kind f)) (b s).looking = ap (λ u. u.looking) d.hand ∙ two.looking in
      change_by n s x m m2 b c others (Kind f) _ d.wrote.place d.wrote.left d.hand two.steps
      (kind_words f d.wrote.others
      (λ g off e there at w alive. rw looking (still_member f (m2 (Kind f)) e (b s).looking there (inl (λ q. off (sym at ∙ q)))))
      (record {
        unpinned = λ q all o u. rw d.fields_is (turned_pinned row f d.k d.l q (d.wrote.running refl) d.may all o (rw d.fields_was at u));
        unkept = λ q all o y. inl (rw d.fields_is (by_kept d.l (left_unkept row n s f (m (Kind f)) d.k d.l (b s) d.was d.may)));
      }))

  pub missed_change : (f : ℕ) → Missed n x f m m2 (b s) (c s) → DomainChange n s x m m2 b c
  missed_change f d =
      let looking : (c s).looking ≡ still_looking f (m (Kind f)) (b s).looking = ap (λ u. u.looking) d.hand in
      change_by n s x m m2 b c others (Kind f) _ d.place (d.left ∙ sym (d.words (Kind f))) d.hand refl
      (same_words n s x m m2 b c others (λ v k p q. d.words (Vcpu v k)) (λ g. d.words (Refs g)) (λ g. d.words (Kind g))
      (λ g e there at w alive. rw looking (still_member f (m (Kind f)) e (b s).looking there (elim (cases_eq g f) [ inl here ↦ inr (rw here at w) | inr off ↦ inl (λ q. off (sym at ∙ q)) ]))))

  -- ---- a live frame stays live: it is kept for nobody
  live_unkept : (f : ℕ) → (kind_at m f).validated ≡ true → (d : ℕ) → KeptForNobody n m b d f → (kind_at m f).kept ≡ false
  live_unkept f live d (inl unkept) = grind arith
  live_unkept f live d (inr l) =
      let formed = member_each (IsLookingFormed n l.vcpu) l.looking (b l.vcpu).looking ((sound.formed l.vcpu l.real).looking) l.here in
      let p : is_partial (kind_at m f) ≡ true = rw (← l.word) formed.partial in
      absurd (cc)

  same_marks : (f : ℕ) → (kind_at m f).validated ≡ true → (kind_at m2 f).pinned ≡ (kind_at m f).pinned → (kind_at m2 f).kept ≡ (kind_at m f).kept → KindKept f
  same_marks f live pinned kept =
      record {
        unpinned = λ q all o u. pinned ∙ u;
        unkept = λ q all o y. inl (by_kept (kind_at m2 f) (kept ∙ live_unkept f live q y));
      }

  pub dropped_change : (f : ℕ) → Dropped n x f m m2 (b s) (c s) → DomainChange n s x m m2 b c
  dropped_change f d =
      let live = drop_live n m b sound s real f d.may in
      let now = drop_word n m b sound s real f d.may (m2 (Kind f)) d.is in
      change_by n s x m m2 b c others (Kind f) _ d.wrote.place d.wrote.left d.hand refl
      (kind_words f d.wrote.others (λ g off e there at w alive. rw (ap (λ u. u.looking) d.hand) there)
      (same_marks f live (ap (λ k. k.pinned) now) (ap (λ k. k.kept) now)))

  pub unlocked_change : (f : ℕ) → Unlocked n x f m m2 (b s) (c s) → DomainChange n s x m m2 b c
  unlocked_change f d =
      let live = lock_live n m b sound s real f d.may in
      let now = unlock_word n m b sound s real f d.may (m2 (Kind f)) d.is in
      change_by n s x m m2 b c others (Kind f) _ d.wrote.place d.wrote.left d.hand refl
      (kind_words f d.wrote.others (λ g off e there at w alive. rw (ap (λ u. u.looking) d.hand) there)
      (same_marks f live (ap (λ k. k.pinned) now) (ap (λ k. k.kept) now)))
