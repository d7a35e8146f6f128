-- An entry of a table under the own lock is exchanged for one that asks another frame.
use Rattle.xp_board.specs.ContextSteps.{context_type}
use Rattle.xp_board.specs.After.{learned_cell}
use Rattle.std.proofs.Common.{◌≡◌, ◌≢◌, ℕ, ◌+◌, ◌<◌, true, false, Some, refl, sym, ◌∙◌, ap, subst, arith, IsTrue, inl, inr}
use Rattle.std.proofs.lemmas.Bool.{and_parts}
use Rattle.std.proofs.lemmas.Bool.Decides.{nat_tests}
use Rattle.xp_words.specs.declared.kind.PageType.{PageType}
use Rattle.xp_words.specs.declared.kind.KindWord.{KindWord}
use Rattle.xp_words.specs.declared.entry.Demand.{Demand}
use Rattle.xp_words.specs.declared.entry.Demand.TheVariants.{Typed}
use Rattle.xp_words.specs.Entries.{demand_at}
use Rattle.xp_words.specs.PageTypes.{is_table}
use Rattle.xp_words.specs.KindWords.{kind_fields, has_form}
use Rattle.xp_words.specs.Machine.{Machine}
use Rattle.xp_words.specs.declared.place.Place.{Place}
use Rattle.xp_words.specs.declared.place.Place.TheVariants.{Clock, Pages, Vcpu, Refs, Kind, Cell, Map}
use Rattle.xp_words.specs.Places.{sizes_of, is_place, run_of}
use Rattle.xp_board.specs.declared.holdings.Holdings.{Holdings}
use Rattle.xp_board.specs.declared.step.Step.{Step}
use Rattle.xp_board.specs.Lists.{EachOf}
use Rattle.xp_board.specs.Readings.{kind_at, is_locked}
use Rattle.xp_board.specs.Hands.{refs_to, typed_to, locks_on, hand, typed_hand}
use Rattle.xp_board.specs.Recorded.{work_of, names, names_typed, entries, held, entry_demand, HasType, TypesAgree}
use Rattle.xp_board.specs.Settling.{demand_in, demand_out}
use Rattle.xp_board.specs.Keeping.{MayAct}
use Rattle.xp_board.specs.Sound.{is_busy, Sound}
use Rattle.step_effects.proofs.ActEffects.{Exchanged}
use Rattle.xp_board.proofs.PlaceTests.{same_or_other}
use Rattle.xp_board.proofs.HandLists.{EachOf-map}
use Rattle.count_rule.proofs.Twins.{EachTwo, EachTwo-each, SameWork, SameLock, SameClaim, recorded_in-same}
use Rattle.xp_board.proofs.Works.{held_free}
use Rattle.xp_board.proofs.Counted.{entries-one, table_entries-changed, contexts-same, hand_is, typed_hand_is, has_type-same}
use Rattle.count_rule.proofs.CountLaw.{each_vcpu}
use Rattle.count_rule.proofs.PartLaws.{stamped_by, idle_running}
use Rattle.count_rule.proofs.Learning.{works_learnt, locks_learnt, claims_learnt}
use Rattle.count_rule.proofs.Quiet.{held_still, locks_times}
use Rattle.count_rule.proofs.Demands.{IsInHand, Spares, out_hand, out_typed, in_hand, in_typed, out_spares, in_more, has_demand, demand_type}
use Rattle.xp_board.proofs.HeldByForm.{held_live}
use Rattle.count_rule.proofs.KindSpelled.{form_was}
use Rattle.count_rule.proofs.SpelledLaw.{wrote_spelled}
use Rattle.count_rule.proofs.Outcome.{Outcome, runs}
use Rattle.count_rule.proofs.HandLaw.{HandMove, hand_outcome}
use Rattle.xp_board.proofs.HandParts.{Beside, Translations, beside_then, translations_then, beside_out, beside_in, translations_out, translations_in}
use Rattle.xp_board.proofs.LockFacts.{Locks, lock_facts}
use Rattle.xp_board.proofs.HandTypes.{typed_out, typed_in}

locked_free : (k : KindWord) → has_form k ≡ true → is_locked k ≡ true → is_busy k ≡ false
unfolding has_form
locked_free k form locked = grind (arith, nat_tests)

module _ (n : Machine) (s : ℕ) (x : Step) (m m2 : Place → ℕ) (b c : ℕ → Holdings) (vcpu : s < (sizes_of n).vcpus) (others : (t : ℕ) → t ≢ s → c t ≡ b t) (may : MayAct n s x (b s)) (sound : Sound n m b) (f i : ℕ) (d : Exchanged n x f i m m2 (b s) (c s)) where
  abbrev old : Demand
  old = demand_at d.e.kind i (m (Cell f i))

  abbrev new : Demand
  new = demand_at d.e.kind i (m2 (Cell f i))

  abbrev between : Holdings
  between = demand_out new (b s)

  abbrev moved : Holdings
  moved = demand_in true old between

  kinds_same : (g : ℕ) → m2 (Kind g) ≡ m (Kind g)
  kinds_same g = d.wrote.others (Kind g) (λ e. cc)

  place_real : (IsTrue (is_place (sizes_of n) (Kind f))) × (i < 512) × (f < (sizes_of n).frames)
  unfolding is_place
  place_real = let real = d.wrote.real in (grind (arith, nat_tests), grind (arith, nat_tests), grind (arith, nat_tests))

  -- the table is live, and all of it is recorded
  facts : Locks n m b s f d.e
  facts = lock_facts n m b s f d.e sound vcpu d.here

  kind_is : (kind_at m f).kind ≡ d.e.kind
  kind_is = facts.kind

  locked : is_locked (kind_at m f) ≡ true
  locked = facts.locked

  all_held : held (sizes_of n) m b f ≡ 512
  all_held =
      let live = (and_parts _ _ locked).0 in
      let table : IsTrue (is_table (kind_at m f).kind) = facts.table in
      held_free n m b sound.alone f (locked_free (kind_at m f) (form_was n s m m2 b vcpu sound f place_real.0) locked) ∙ held_live (kind_at m f) live ∙ (rw table refl)

  old_is : entry_demand m f i ≡ old
  old_is = ap (λ y. demand_at y i (m (Cell f i))) kind_is

  new_is : entry_demand m2 f i ≡ new
  new_is = ap (λ y. demand_at y i (m2 (Cell f i))) (ap (λ y. (kind_fields y).kind) (kinds_same f) ∙ kind_is)

  has : IsInHand new (b s) × Spares new (b s)
  has = has_demand n f d.e.kind (b s) new d.may

  -- ---- the hand
  side : Beside (b s) moved
  side = beside_then (b s) between moved (beside_out new (b s)) (beside_in true old between)

  far : Translations (b s) moved
  far = translations_then (b s) between moved (translations_out new (b s)) (translations_in true old between)

  works_kept : EachTwo SameWork (b s).works (c s).works
  works_kept =
      subst (λ y. EachTwo SameWork (b s).works y) (sym (ap (λ y. y.works) d.hand)) (subst (λ y. EachTwo SameWork y (learned_cell f i (m2 (Cell f i)) moved).works) side.works (works_learnt f i (m2 (Cell f i)) moved))

  locks_kept : EachTwo SameLock (b s).locks (c s).locks
  locks_kept =
      subst (λ y. EachTwo SameLock (b s).locks y) (sym (ap (λ y. y.locks) d.hand)) (subst (λ y. EachTwo SameLock y (learned_cell f i (m2 (Cell f i)) moved).locks) side.locks (locks_learnt f i (m2 (Cell f i)) moved))

  claims_kept : EachTwo SameClaim (b s).claimed (c s).claimed
  claims_kept =
      subst (λ y. EachTwo SameClaim (b s).claimed y) (sym (ap (λ y. y.claimed) d.hand))
      (subst (λ y. EachTwo SameClaim y (learned_cell f i (m2 (Cell f i)) moved).claimed) side.claimed (claims_learnt f i (m2 (Cell f i)) moved))

  hand_moves : (g : ℕ) → (hand g (c s) + names g new ≡ hand g (b s) + names g old) × (typed_hand g (c s) + names_typed g new ≡ typed_hand g (b s) + names_typed g old)
  hand_moves g =
      let o = out_hand g new (b s) has.0 in
      let p = in_hand true g old between in
      let q = out_typed g new (b s) has.0 in
      let r = in_typed true g old between in
      let refs = ap (λ y. refs_to g y.refs) d.hand in
      let typed = ap (λ y. typed_to g y.typed) d.hand in
      let locks = locks_times (b s) (c s) locks_kept g in
      let same = ap (locks_on g) side.locks in
      let a = hand_is g (c s) in
      let e = typed_hand_is g (c s) in
      let h = hand_is g moved in
      let j = typed_hand_is g moved in
      (omega arith, omega arith)

  -- ---- the entries
  held_same : (g : ℕ) → held (sizes_of n) m2 c g ≡ held (sizes_of n) m b g
  held_same g = held_still n s m m2 b c vcpu others g (kinds_same g) (recorded_in-same g _ _ works_kept)

  demand_other : (g j : ℕ) → Cell g j ≢ Cell f i → entry_demand m2 g j ≡ entry_demand m g j
  demand_other g j off = rw (d.wrote.others (Cell g j) off, kinds_same g) refl

  entries_move : (count : Demand → ℕ) → entries count (sizes_of n) m2 c + count old ≡ entries count (sizes_of n) m b + count new
  entries_move count =
      let one = entries-one count (sizes_of n) m m2 b c f place_real.2 (λ g off. held_same g) (λ g j off l. demand_other g j (λ e. off (cc))) in
      let full = all_held in
      let inside = place_real.1 in
      let table = table_entries-changed count m m2 (work_of (sizes_of n).vcpus b f) (work_of (sizes_of n).vcpus c f) f i (held_same f) (omega arith) (λ j off. demand_other f j (λ e. off (cc))) in
      let p = ap count old_is in
      let q = ap count new_is in
      omega arith

  entry_type : (g j h : ℕ) (t : PageType) → j < held (sizes_of n) m2 c g → entry_demand m2 g j ≡ Typed h t → (kind_at m2 h).kind ≡ t
  entry_type g j h t l e =
      elim (same_or_other (Cell g j) (Cell f i)) [
        | inl at ↦
            let frame : g ≡ f = cc in
            let index : j ≡ i = cc in
            let asked : new ≡ Typed h t = sym new_is ∙ ap (λ y. entry_demand m2 y i) (sym frame) ∙ ap (entry_demand m2 g) (sym index) ∙ e in
            rw (kinds_same h) (demand_type n m b s f d.e.kind new (sound.found s vcpu) d.may h t asked)
        | inr off ↦ rw (kinds_same h) (sound.counts.kinds.entries g j h t (rw (held_same g) at l) (sym (demand_other g j off) ∙ e))
      ]

  old_type : (g : ℕ) (t : PageType) → old ≡ Typed g t → (kind_at m g).kind ≡ t
  old_type g t e = let full = all_held in let inside = place_real.1 in sound.counts.kinds.entries f i g t (omega arith) (old_is ∙ e)

  types_moved : TypesAgree (sizes_of n) m2 c
  types_moved =
      record {
        entries = entry_type;
        contexts = λ w j g p q t e. has_type-same m m2 g (context_type j) (kinds_same g) (sound.counts.kinds.contexts w j g p q t (sym (d.wrote.others (Vcpu w j) (λ k. cc)) ∙ e));
        typed = each_vcpu n s m m2 b c vcpu others (λ t u. EachOf (λ e. HasType m2 e.frame e.kind) u.typed)
            (subst (λ y. EachOf (λ e. HasType m2 e.frame e.kind) y) (sym (ap (λ y. y.typed) d.hand))
            (EachOf-map (λ e. HasType m e.frame e.kind) _ moved.typed (λ e k. has_type-same m m2 e.frame e.kind (kinds_same e.frame) k) (typed_in true (λ y. HasType m y.frame y.kind) old between old_type (typed_out (λ y. HasType m y.frame y.kind) new (b s) (sound.counts.kinds.typed s vcpu)))))
            (λ t l off. EachOf-map (λ e. HasType m e.frame e.kind) _ (b t).typed (λ e k. has_type-same m m2 e.frame e.kind (kinds_same e.frame) k) (sound.counts.kinds.typed t l));
        locks = each_vcpu n s m m2 b c vcpu others (λ t u. EachOf (λ e. HasType m2 e.frame (Some e.kind)) u.locks)
            (EachTwo-each SameLock (λ e. HasType m e.frame (Some e.kind)) _ _ _ (λ y z r k. rw (kinds_same z.frame) (ap (λ f. (kind_at m f).kind) r.frame ∙ k ∙ sym r.kind)) locks_kept (sound.counts.kinds.locks s vcpu))
            (λ t l off. EachOf-map (λ e. HasType m e.frame (Some e.kind)) _ (b t).locks (λ e k. has_type-same m m2 e.frame (Some e.kind) (kinds_same e.frame) k) (sound.counts.kinds.locks t l));
      }

  exchange_move : HandMove n s m m2 b c vcpu others
  exchange_move =
      record {
        ref_words = λ g. d.wrote.others (Refs g) (λ e. cc);
        kind_words = kinds_same;
        page_words = λ e. d.wrote.others (Pages e) (λ e. cc);
        map_words = λ e. d.wrote.others (Map e) (λ e. cc);
        works = works_kept;
        locks = locks_kept;
        ending = ap (λ y. y.ending) d.hand ∙ side.ending;
        claimed = claims_kept;
        raised = ap (λ y. y.raised) d.hand ∙ side.raised;
        credits = ap (λ y. y.credits) d.hand ∙ side.credits;
        spares = λ g t l. subst (λ y. 0 < refs_to g y) (sym (ap (λ y. y.refs) d.hand)) (in_more true old between g (out_spares new (b s) has.0 has.1 g t l));
        refs = λ g.
            let e = entries_move (names g) in let k = (hand_moves g).0 in
            let w = contexts-same (sizes_of n) m m2 g (λ v k t. d.wrote.others (Vcpu v k) (λ e. cc)) in
            omega arith;
        types = λ g.
            let e = entries_move (names_typed g) in let k = (hand_moves g).1 in
            let w = contexts-same (sizes_of n) m m2 g (λ v k t. d.wrote.others (Vcpu v k) (λ e. cc)) in
            omega arith;
        kinds = types_moved;
      }

  pub exchanged_outcome : Outcome n m2 c
  exchanged_outcome =
      let words = d.wrote.others in
      let clock = words Clock (λ e. cc) in
      hand_outcome n s m m2 b c vcpu others sound exchange_move
      (wrote_spelled n s x (Cell f i) _ m m2 (b s) d.wrote may sound.machine sound.spelled (λ by l. absurd l) (λ v l. absurd l))
      (stamped_by n m m2 (Cell f i) words (omega arith) (λ w e. absurd (cc)) (λ g e. absurd (cc)) (λ g e. absurd (cc)) sound.stamped)
      (idle_running n s m m2 b c vcpu others (words (run_of s) (λ e. cc) ∙ runs n s m m2 b c vcpu others sound (d.wrote.running refl)) (λ w off. words (run_of w) (λ e. cc))
      (λ e. sym (ap (λ y. y.cold) d.hand ∙ far.cold) ∙ e) (λ t e. (ap (λ y. y.cache) d.hand ∙ far.cache) ∙ e) (λ t e. (ap (λ y. y.walk) d.hand ∙ far.walk) ∙ e) sound.idle)
