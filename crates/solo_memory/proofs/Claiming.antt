-- A claim by one vCPU alone comes to its plain meaning.
use Rattle.std.proofs.Common.{◌≡◌, ◌≢◌, ℕ, zero, suc, ◌+◌, ◌-◌, ◌*◌, ◌/◌, ◌^◌, ◌<◌, ◌≤◌, ◌==◌, if◌then◌else◌, Bool, true, false, List, Option, Some, None, Ok, refl, sym, ap, ◌∙◌, subst, inl, inr, arith}
use Rattle.std.proofs.Math.Nat.{div-add-mod', mod-lt}
use Rattle.std.proofs.lemmas.Bool.{cases_Bool}
use Rattle.std.proofs.lemmas.Bool.Decides.{nat_tests}
use Rattle.xp_words.specs.KindWords.{kind_fields}
use Rattle.xp_words.specs.Machine.{Machine}
use Rattle.xp_words.specs.RefWords.{IsRef, ref_write}
use Rattle.xp_words.specs.declared.place.Place.{Place}
use Rattle.xp_words.specs.declared.place.Place.TheVariants.{Cell, Kind, M2p, Refs}
use Rattle.xp_words.specs.declared.refs.RefWord.TheVariants.{Owned}
use Rattle.xp_words.proofs.RefLaws.{ref_read-write}
use Rattle.xp_board.specs.Hands.{IsEmptyHand}
use Rattle.xp_board.specs.Lists.{Member}
use Rattle.xp_board.specs.Told.{PortValue, is_telling, told_word}
use Rattle.step_maker.specs.Answers.{Serves}
use Rattle.step_maker.specs.Asked.{Request}
use Rattle.step_maker.specs.Plain.{Leaves}
use Rattle.step_maker.specs.Visits.{Does, Visit, visits}
use Rattle.step_maker.proofs.Visiting.{does_came}
use Rattle.answer_laws.proofs.Shared.{alone_telling}
use Rattle.replay_laws.specs.LeftAlone as left
use Rattle.replay_laws.specs.LeftAlone.{IsUnasked}
use Rattle.replay_laws.proofs.Keeping.{left_alone}
use Rattle.table_words.specs.OldWords.{old_place}
use Rattle.table_words.specs.declared.old_words.OldWord.{OldWord}
use Rattle.table_words.specs.declared.old_words.OldWord.TheVariants.{First, Second}
use Rattle.frame_claims.specs.Blocks.{given_deeds}
use Rattle.frame_claims.specs.Blocks as blocks
use Rattle.frame_claims.specs.Found.{ClaimsBy}
use Rattle.frame_claims.proofs.Telling.{Alls, IsAway, told_ran, words_after}
use Rattle.frame_claims.proofs.Waiting.{IsAside}
use Rattle.table_law.specs.Plain.{Describes, share_in, share_of, sober}
use Rattle.course_laws.proofs.Awaiting.{AloneStays}
use Rattle.script_law.specs.Memory.{given, is_in, numbered, with_block}
use Rattle.script_law.specs.Values.{Solo}
use Rattle.solo_ports.specs.Standing.{Clean}
use Rattle.solo_memory.proofs.Behind.{SetsNone, clean_behind}
use Rattle.solo_memory.proofs.Taking.{away_stays, claim_away, claim_cells, claim_maps, claim_refs}

-- ---- the list of a call's steps, and what it leaves
pub record Made (v w : PortValue) (P : List Visit → Type 0) : Type 0 where
  pub list : List Visit
  pub like : P list
  pub leaves : Leaves w (words_after (told_word v) list)

pub does_made : (v w : PortValue) (P : List Visit → Type 0) → is_telling v ≡ true → Does v w P → Made v w P
unfolding Does
does_made v w P telling does = record { list = visits does.0; like = does.2; leaves = (told_ran v w does.0 does.1 telling).1 }

pub made_away : (v w : PortValue) (P : List Visit → Type 0) (p : Place) → Made v w P → Alls (IsAway p) P → told_word w p ≡ told_word v p
made_away v w P p made away = made.leaves p ∙ away_stays p P away (told_word v) made.list made.like

-- ---- deeds
pub given_quiet : (first k : ℕ) → SetsNone (given_deeds first k)
unfolding Member
given_quiet first zero s i y at = at
given_quiet first (suc k) s i y (inl is) = absurd cc
given_quiet first (suc k) s i y (inr at) = given_quiet first k s i y at

-- ---- frames of a block
block_is : (f block size g : ℕ) → 0 < size → f ≡ block * size → is_in f size g ≡ false → (g / size == block) ≡ false
block_is f block size g some is out =
    elim (cases_Bool (g / size == block)) [
      | inl on ↦
          let same : g / size ≡ block = grind (arith, nat_tests) in
          let all = div-add-mod' g size in
          let low = mod-lt g some in
          let first : g / size * size ≡ f = ap (λ b. b * size) same ∙ sym is in
          let inside : is_in f size g ≡ true = grind (arith, nat_tests, all, low, first) in
          absurd cc
      | inr off ↦ off
    ]

record IsInside (f size g : ℕ) : Type 0 where
  number : ℕ
  low : number < size
  is : f + number ≡ g
  back : g - f ≡ number

inside_block : (f size g : ℕ) → is_in f size g ≡ true → IsInside f size g
inside_block f size g on =
    let from : f ≤ g = grind (arith, nat_tests) in
    let to : g < f + size = grind (arith, nat_tests) in
    record { number = g - f; low = omega arith; is = omega arith; back = refl }

same_number : (g : Option ℕ) (j : ℕ) → blocks.numbered g j ≡ numbered g j
same_number (Some first) j = refl
same_number None j = refl

owned_one : (d : ℕ) → d < 2 ^ 16 → share_of (ref_write (Owned d true 1)) ≡ Some (record { owner = d; allocated = true; count = 1 })
unfolding IsRef
owned_one d small = ap share_in (ref_read-write (Owned d true 1) (small, omega arith, omega arith))

pub old_aside : (o : OldWord) (s : ℕ) (p : Place) → IsAside p → p ≢ old_place s o
old_aside First s p aside e = let late = subst IsAside e aside in cc
old_aside Second s p aside e = let late = subst IsAside e aside in cc

-- ---- a claim that is done
module _ (v w : PortValue) (x : Solo) (clean : Clean v x) (d size f block : ℕ) (gpfn : Option ℕ) (some : 0 < size) (small : d < 2 ^ 16) (is : f ≡ block * size) (r : Request) (serves : Serves v w r (given_deeds f size))
    (unasked : (g : ℕ) → (g / size == block) ≡ false → IsUnasked r g) (does : Does v w (λ vs. ClaimsBy v.post d size gpfn (Ok f) vs)) where
  abbrev n : Machine
  n = v.post.machine

  telling : is_telling v ≡ true
  telling = alone_telling v clean.stands.alone

  made : Made v w (λ vs. ClaimsBy v.post d size gpfn (Ok f) vs)
  made = does_made v w (λ vs. ClaimsBy v.post d size gpfn (Ok f) vs) telling does

  kind_same : (g : ℕ) → told_word w (Kind g) ≡ told_word v (Kind g)
  kind_same g =
      made_away v w (λ vs. ClaimsBy v.post d size gpfn (Ok f) vs) (Kind g) made
      (claim_away (Kind g) (λ p aside e. subst IsAside e aside) (λ e is. absurd cc) (λ h is. absurd cc) v.post d size gpfn f (λ h i is. absurd cc) (λ h is. absurd cc) (λ h is. absurd cc))

  pub old_same : (o : OldWord) → told_word w (old_place v.post.vcpu o) ≡ told_word v (old_place v.post.vcpu o)
  old_same o =
      made_away v w (λ vs. ClaimsBy v.post d size gpfn (Ok f) vs) (old_place v.post.vcpu o) made
      (claim_away (old_place v.post.vcpu o) (old_aside o v.post.vcpu) (λ e is. absurd cc) (λ h is. absurd cc) v.post d size gpfn f (λ h i is. absurd cc) (λ h is. absurd cc) (λ h is. absurd cc))

  share_by : (b : Bool) (g : ℕ) → is_in f size g ≡ b → g < n.frames → (if b then Some (record { owner = d; allocated = true; count = 1 }) else x.frames.shares g) ≡ share_of (told_word w (Refs g))
  share_by true g on inside =
      let a = inside_block f size g on in
      sym (ap share_of (ap (λ h. told_word w (Refs h)) (sym a.is) ∙ (made.leaves (Refs (f + a.number)) ∙ claim_refs v.post d size gpfn f a.number a.low (told_word v) made.list made.like)) ∙ owned_one d small)
  share_by false g off inside =
      clean.frames.shares g inside ∙ ap share_of (sym (left_alone v w r (given_deeds f size) (Refs g) telling serves (left.IsLeftAlone.refs g (unasked g (block_is f block size g some is off)))))

  cell_by : (b : Bool) (g i : ℕ) → is_in f size g ≡ b → g < n.frames → i < 512 → (if b then 0 else x.frames.cells g i) ≡ told_word w (Cell g i)
  cell_by true g i on inside few =
      let a = inside_block f size g on in
      sym (ap (λ h. told_word w (Cell h i)) (sym a.is) ∙ (made.leaves (Cell (f + a.number) i) ∙ claim_cells v.post d size gpfn f a.number a.low (told_word v) made.list made.like i few))
  cell_by false g i off inside few =
      clean.frames.cells g i inside few ∙ sym (left_alone v w r (given_deeds f size) (Cell g i) telling serves (left.IsLeftAlone.cell g i (unasked g (block_is f block size g some is off))))

  map_by : (b : Bool) (g : ℕ) → is_in f size g ≡ b → g < n.frames → (if b then numbered gpfn (g - f) else x.maps g) ≡ told_word w (M2p g)
  map_by true g on inside =
      let a = inside_block f size g on in
      ap (numbered gpfn) a.back ∙ (sym (same_number gpfn a.number)
      ∙ sym (ap (λ h. told_word w (M2p h)) (sym a.is) ∙ (made.leaves (M2p (f + a.number)) ∙ claim_maps v.post d size gpfn f a.number a.low (told_word v) made.list made.like)))
  map_by false g off inside =
      clean.stands.others.maps g inside ∙ sym (left_alone v w r (given_deeds f size) (M2p g) telling serves (left.IsLeftAlone.m2p g (unasked g (block_is f block size g some is off))))

  pub describes : Describes n (told_word w) (with_block d f size x.frames)
  describes =
      record {
        shares = λ g inside. share_by (is_in f size g) g refl inside;
        kinds = λ g inside. clean.frames.kinds g inside ∙ ap (λ z. sober (kind_fields z)) (sym (kind_same g));
        cells = λ g i inside few. cell_by (is_in f size g) g i refl inside few;
      }

  pub claimed_clean : AloneStays → IsEmptyHand w.holdings → r.destroys ≡ None → r.grants ≡ None → Clean w (given d f size gpfn x)
  claimed_clean stays empty spares grants =
      clean_behind v w x clean stays (does_came v w _ does) empty r (given_deeds f size) serves spares grants (given_quiet f size) old_same (with_block d f size x.frames) (λ g. if is_in f size g then numbered gpfn (g - f) else x.maps g)
      (λ g inside. map_by (is_in f size g) g refl inside) clean.stands.unkept describes
