-- A word of a vCPU names another frame, or none.
use Rattle.std.proofs.Common.{◌≡◌, ◌≢◌, ℕ, ◌+◌, ◌<◌, Option, Some, None, refl, sym, ◌∙◌, ap, subst, arith, add-one, inl, inr}
use Rattle.std.proofs.lemmas.Bool.Decides.{nat_tests}
use Rattle.xp_words.specs.declared.kind.PageType.{PageType}
use Rattle.xp_words.specs.Machine.{Machine}
use Rattle.xp_words.specs.declared.place.Place.{Place}
use Rattle.xp_words.specs.declared.place.Place.TheVariants.{Clock, Pages, Vcpu, Refs, Kind, Cell, Map}
use Rattle.xp_words.specs.Places.{sizes_of, is_place, run_of}
use Rattle.xp_board.specs.declared.holdings.Holdings.{Holdings}
use Rattle.xp_board.specs.declared.step.Step.{Step}
use Rattle.xp_board.specs.Lists.{one_at, EachOf}
use Rattle.xp_board.specs.Readings.{kind_at}
use Rattle.xp_board.specs.Hands.{refs_to, typed_to, typed_hand}
use Rattle.xp_board.specs.ContextSteps.{context_type, FitsWord, NamesFrame, named_in, named_out}
use Rattle.xp_board.specs.Recorded.{names, names_typed, contexts, held, entry_demand, HasType, TypesAgree}
use Rattle.xp_board.specs.After.{learned}
use Rattle.xp_board.specs.Keeping.{MayAct}
use Rattle.xp_board.specs.Sound.{Sound}
use Rattle.step_effects.proofs.ActEffects.{Named}
use Rattle.xp_board.proofs.PlaceTests.{same_or_other}
use Rattle.count_rule.proofs.Twins.{EachTwo-each, SameLock, recorded_in-same, EachTwo, SameWork, SameClaim}
use Rattle.xp_board.proofs.Counted.{entries-same, contexts-one, hand_is, typed_hand_is, not_context, has_type-same}
use Rattle.count_rule.proofs.CountLaw.{each_vcpu}
use Rattle.count_rule.proofs.PartLaws.{stamped_by, idle_running}
use Rattle.count_rule.proofs.Learning.{Kept, Learnt, learnt, kept_noted}
use Rattle.count_rule.proofs.Quiet.{held_still, locks_times}
use Rattle.count_rule.proofs.SpelledLaw.{wrote_spelled}
use Rattle.count_rule.proofs.Outcome.{Outcome, cells_same, runs}
use Rattle.count_rule.proofs.HandLaw.{HandMove, hand_outcome}
use Rattle.xp_board.proofs.HandLists.{EachOf-map}
use Rattle.count_rule.proofs.NameHands.{named_out_typed, named_in_typed, IsNamed}
use Rattle.xp_board.proofs.HandParts.{Beside, Translations, beside_then, translations_then, beside_named_out, beside_named_in, translations_named_out, translations_named_in, refs_named_in, refs_named_out}
use Rattle.xp_board.proofs.HandTypes.{typed_named_out, typed_named_in}

module _ (n : Machine) (s : ℕ) (x : Step) (m m2 : Place → ℕ) (b c : ℕ → Holdings) (vcpu : s < (sizes_of n).vcpus) (others : (t : ℕ) → t ≢ s → c t ≡ b t) (may : MayAct n s x (b s)) (sound : Sound n m b) (v k : ℕ) (d : Named n s x v k m m2 (b s) (c s)) where
  abbrev was : ℕ
  was = m (Vcpu v k)

  abbrev is : ℕ
  is = m2 (Vcpu v k)

  abbrev moved : Holdings
  moved = named_in k was (named_out is (b s))

  -- the new word names a frame to which a typed reference is in hand, and which has the type of the word
  named_frame : NamesFrame n s k is (b s) → IsNamed is (b s)
  named_frame e = subst (λ y. IsNamed y (b s)) (sym (e.names ∙ add-one e.frame)) e.in_hand

  named_none : is ≡ 0 → IsNamed is (b s)
  named_none e = subst (λ y. IsNamed y (b s)) (sym e) tt

  has_named : IsNamed is (b s)
  has_named =
      elim d.may [
        | inl name ↦
            elim name.names [
              | inl none ↦ named_none none
              | inr frame ↦ named_frame frame
            ]
        | inr empty ↦ named_none empty.none
      ]

  fits_type : (g : ℕ) (o : Option PageType) → FitsWord n s g (b s) o → HasType m g o
  fits_type g (Some t) fits = ((sound.found s vcpu).lives g t fits.0).1
  fits_type g None fits = tt

  new_type : (g : ℕ) → is ≡ g + 1 → HasType m g (context_type k)
  new_type g e =
      elim d.may [
        | inl name ↦
            elim name.names [
              | inl none ↦ absurd (omega arith)
              | inr frame ↦
                  let i = frame.names in
                  let same : frame.frame ≡ g = omega arith in
                  subst (λ y. HasType m y (context_type k)) same (fits_type frame.frame (context_type k) frame.fits)
            ]
        | inr empty ↦ let z = empty.none in absurd (omega arith)
      ]

  place_real : (v < (sizes_of n).vcpus) × (k < 38)
  unfolding is_place
  place_real = let real = d.wrote.real in (grind (arith, nat_tests), grind (arith, nat_tests))

  kinds_same : (g : ℕ) → m2 (Kind g) ≡ m (Kind g)
  kinds_same g = d.wrote.others (Kind g) (λ e. cc)

  learnt_all : Learnt moved (learned s (Vcpu v k) was is moved)
  learnt_all = learnt s (Vcpu v k) was is moved

  kept : Kept moved (c s)
  kept = kept_noted x was moved _ (c s) d.hand learnt_all.kept

  side : Beside (b s) moved
  side = beside_then (b s) (named_out is (b s)) moved (beside_named_out is (b s)) (beside_named_in k was (named_out is (b s)))

  far : Translations (b s) moved
  far = translations_then (b s) (named_out is (b s)) moved (translations_named_out is (b s)) (translations_named_in k was (named_out is (b s)))

  refs_same : moved.refs ≡ (b s).refs
  refs_same = refs_named_in k was (named_out is (b s)) ∙ refs_named_out is (b s)

  works_kept : EachTwo SameWork (b s).works (c s).works
  works_kept = subst (λ y. EachTwo SameWork y (c s).works) side.works kept.works

  locks_kept : EachTwo SameLock (b s).locks (c s).locks
  locks_kept = subst (λ y. EachTwo SameLock y (c s).locks) side.locks kept.locks

  claims_kept : EachTwo SameClaim (b s).claimed (c s).claimed
  claims_kept = subst (λ y. EachTwo SameClaim y (c s).claimed) side.claimed kept.claimed

  typed_moves : (g : ℕ) → typed_hand g (c s) + one_at (g + 1) is ≡ typed_hand g (b s) + one_at (g + 1) was
  typed_moves g =
      let p = typed_hand_is g (c s) in
      let q = typed_hand_is g (b s) in
      let o = named_out_typed g is (b s) has_named in
      let i = named_in_typed g k was (named_out is (b s)) in
      let t = ap (typed_to g) kept.typed in
      let l = locks_times (b s) (c s) locks_kept g in
      omega arith

  held_named : (f : ℕ) → held (sizes_of n) m2 c f ≡ held (sizes_of n) m b f
  held_named f = held_still n s m m2 b c vcpu others f (kinds_same f) (recorded_in-same f _ _ works_kept)

  demands_named : (f i : ℕ) → entry_demand m2 f i ≡ entry_demand m f i
  demands_named f i = cells_same n s m m2 b c vcpu others kinds_same (λ g j. d.wrote.others (Cell g j) (λ e. cc)) f i

  words_named : (g : ℕ) → contexts (sizes_of n) m2 g + one_at (g + 1) was ≡ contexts (sizes_of n) m g + one_at (g + 1) is
  words_named g = contexts-one (sizes_of n) m m2 g v k place_real.0 place_real.1 d.word (λ w j off. d.wrote.others (Vcpu w j) off)

  types_named : TypesAgree (sizes_of n) m2 c
  types_named =
      record {
        entries = λ f i g t l e. rw (kinds_same g) (sound.counts.kinds.entries f i g t (rw (held_named f) at l) (sym (demands_named f i) ∙ e));
        contexts = λ w j g p q t e. elim (same_or_other (Vcpu w j) (Vcpu v k)) [
          | inl at ↦
              let i : j ≡ k = cc in
              rw i (has_type-same m m2 g (context_type k) (kinds_same g) (new_type g (ap m2 (sym at) ∙ e)))
          | inr off ↦ has_type-same m m2 g (context_type j) (kinds_same g) (sound.counts.kinds.contexts w j g p q t (sym (d.wrote.others (Vcpu w j) off) ∙ e))
        ];
        typed = each_vcpu n s m m2 b c vcpu others (λ t u. EachOf (λ e. HasType m2 e.frame e.kind) u.typed)
            (subst (λ y. EachOf (λ e. HasType m2 e.frame e.kind) y) (sym kept.typed)
            (EachOf-map (λ e. HasType m e.frame e.kind) _ moved.typed (λ e i. has_type-same m m2 e.frame e.kind (kinds_same e.frame) i)
            (typed_named_in (λ y. HasType m y.frame y.kind) k was (named_out is (b s)) (λ f e. sound.counts.kinds.contexts v k f place_real.0 place_real.1 d.word (e ∙ sym (add-one f))) (typed_named_out (λ y. HasType m y.frame y.kind) is (b s) (sound.counts.kinds.typed s vcpu)))))
            (λ t l off. EachOf-map (λ e. HasType m e.frame e.kind) _ (b t).typed (λ e i. has_type-same m m2 e.frame e.kind (kinds_same e.frame) i) (sound.counts.kinds.typed t l));
        locks = each_vcpu n s m m2 b c vcpu others (λ t u. EachOf (λ e. HasType m2 e.frame (Some e.kind)) u.locks)
            (EachTwo-each SameLock (λ e. HasType m e.frame (Some e.kind)) _ _ _ (λ y z r i. rw (kinds_same z.frame) (ap (λ f. (kind_at m f).kind) r.frame ∙ i ∙ sym r.kind)) locks_kept (sound.counts.kinds.locks s vcpu))
            (λ t l off. EachOf-map (λ e. HasType m e.frame (Some e.kind)) _ (b t).locks (λ e i. has_type-same m m2 e.frame (Some e.kind) (kinds_same e.frame) i) (sound.counts.kinds.locks t l));
      }

  named_move : HandMove n s m m2 b c vcpu others
  named_move =
      record {
        ref_words = λ g. d.wrote.others (Refs g) (λ e. cc);
        kind_words = kinds_same;
        page_words = λ e. d.wrote.others (Pages e) (λ e. cc);
        map_words = λ e. d.wrote.others (Map e) (λ e. cc);
        works = works_kept;
        locks = locks_kept;
        ending = kept.ending ∙ side.ending;
        claimed = claims_kept;
        raised = kept.raised ∙ side.raised;
        credits = kept.credits ∙ side.credits;
        spares = λ g t l. rw (kept.refs ∙ refs_same) l;
        refs = λ g.
            let e = entries-same (names g) (sizes_of n) m m2 b c held_named (λ f i l. demands_named f i) in
            let w = words_named g in let t = typed_moves g in
            let p = hand_is g (c s) in let q = hand_is g (b s) in let r = ap (refs_to g) (kept.refs ∙ refs_same) in
            omega arith;
        types = λ g.
            let e = entries-same (names_typed g) (sizes_of n) m m2 b c held_named (λ f i l. demands_named f i) in
            let w = words_named g in let t = typed_moves g in
            omega arith;
        kinds = types_named;
      }

  pub named_outcome : Outcome n m2 c
  named_outcome =
      let words = d.wrote.others in
      let word = d.word in
      let clock = words Clock (λ e. cc) in
      let still = learnt_all.still in
      hand_outcome n s m m2 b c vcpu others sound named_move
      (wrote_spelled n s x (Vcpu v k) _ m m2 (b s) d.wrote may sound.machine sound.spelled (λ by l. absurd l) (λ v l. absurd l))
      (stamped_by n m m2 (Vcpu v k) words (omega arith) (λ w e. let i : k ≡ 5 = cc in absurd (not_context 5 k refl word i)) (λ g e. absurd (cc)) (λ g e. absurd (cc)) sound.stamped)
      (idle_running n s m m2 b c vcpu others (words (run_of s) (λ e. let i : 6 ≡ k = cc in absurd (not_context 6 k refl word (sym i))) ∙ runs n s m m2 b c vcpu others sound (d.wrote.running refl))
      (λ w off. words (run_of w) (λ e. let i : 6 ≡ k = cc in absurd (not_context 6 k refl word (sym i))))
      (λ e. sym (ap (λ y. y.cold) d.hand ∙ still.cold ∙ far.cold) ∙ e) (λ t e. (ap (λ y. y.cache) d.hand ∙ still.cache ∙ far.cache) ∙ e) (λ t e. (ap (λ y. y.walk) d.hand ∙ still.walk ∙ far.walk) ∙ e)
      sound.idle)
