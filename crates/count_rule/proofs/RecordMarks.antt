-- The marks that record an entry, and that take the last one back.
use Rattle.std.proofs.Common.{◌≡◌, ◌≢◌, ℕ, ◌+◌, ◌<◌, Bool, false, None, refl, sym, ◌∙◌, ap, subst, arith, IsTrue, inl, inr}
use Rattle.std.proofs.lemmas.Bool.{cases_eq}
use Rattle.xp_words.specs.declared.kind.PageType.{PageType}
use Rattle.xp_words.specs.declared.entry.Demand.{Demand}
use Rattle.xp_words.specs.declared.entry.Demand.TheVariants.{Nothing, Bad, Read, Typed}
use Rattle.xp_words.specs.Entries.{demand_at}
use Rattle.xp_words.specs.KindWords.{kind_fields}
use Rattle.xp_words.specs.Machine.{Machine}
use Rattle.xp_words.specs.declared.place.Place.{Place}
use Rattle.xp_words.specs.Places.{sizes_of}
use Rattle.xp_board.specs.declared.holdings.Holdings.{Holdings}
use Rattle.xp_board.specs.declared.holdings.Work.{Work}
use Rattle.xp_board.specs.Readings.{kind_at}
use Rattle.xp_board.specs.Hands.{refs_to, hand, typed_hand, changed_work}
use Rattle.xp_board.specs.Recorded.{work_of, entry_demand, names, names_typed, entries, HasType}
use Rattle.xp_board.specs.Settling.{HasLastDemand, demand_in, demand_out, is_settled}
use Rattle.xp_board.specs.Marks.{MayRecord, MayShed, demand_seen, seen_word, unsettled_by}
use Rattle.xp_board.specs.Sound.{HeldAlone, Sound}
use Rattle.step_effects.proofs.MarkEffects.{Recorded, Shed}
use Rattle.xp_board.proofs.Counted.{entries-one, table_entries-more, table_inside}
use Rattle.count_rule.proofs.Quiet.{is_closing_at}
use Rattle.count_rule.proofs.Demands.{IsInHand, out_hand, out_typed, in_hand, in_typed, Spares, out_spares, in_more, has_last, last_type}
use Rattle.count_rule.proofs.EntryMarks.{MarkMove, mark_alone, mark_held_other, mark_held_here, marked_outcome}
use Rattle.count_rule.proofs.Outcome.{Outcome}
use Rattle.xp_board.proofs.HandParts.{beside_out, beside_in, translations_out, translations_in}
use Rattle.xp_board.proofs.WorkFacts.{work_word, work_held, seen_unmarked, loaded_asks, works_facts}
use Rattle.xp_board.proofs.HandTypes.{typed_out, typed_in}

module _ (n : Machine) (s : ℕ) (m : Place → ℕ) (h b : ℕ → Holdings) (vcpu : s < (sizes_of n).vcpus) (others : (t : ℕ) → t ≢ s → b t ≡ h t) (sound : Sound n m h) (f upto : ℕ) where
  hand_alike : (g : ℕ) (u v : Holdings) → v.refs ≡ u.refs → v.typed ≡ u.typed → v.locks ≡ u.locks → (hand g v ≡ hand g u) × (typed_hand g v ≡ typed_hand g u)
  unfolding hand typed_hand
  hand_alike g u v r t l = (rw (r, t, l) refl, rw (t, l) refl)

  -- ---- an entry joins the recorded ones
  module _ (e : Work) (may : MayRecord n f upto (h s) e) (change : Work → Work) (frames : (y : Work) → (change y).frame ≡ y.frame) (words : (y : Work) → (change y).word ≡ y.word)
      (more : (change e).recorded ≡ e.recorded + 1) (asked : Demand) (asked_is : asked ≡ demand_at (kind_fields e.word).kind e.recorded may.word)
      (hand_is : b s ≡ demand_out asked (record (h s) { works = changed_work f change (h s).works })) where
    abbrev bare : Holdings
    bare = record (h s) { works = changed_work f change (h s).works }

    stands : entry_demand m f e.recorded ≡ asked
    stands = sym (loaded_asks n m h s f e (works_facts n m h s f e sound vcpu may.here) e.recorded may.word may.table may.seen) ∙ sym asked_is

    has : IsInHand asked (h s) × Spares asked (h s)
    has = has_last n f (kind_fields e.word).kind (h s) asked (subst (HasLastDemand n f (kind_fields e.word).kind (h s)) (sym asked_is) may.in_hand)

    works_now : (b s).works ≡ changed_work f change (h s).works
    works_now = ap (λ y. y.works) hand_is ∙ (beside_out asked bare).works

    alone : HeldAlone n m b
    alone =
        mark_alone n s m h b vcpu others sound f e may.here change works_now frames words may.unmarked (ap (λ y. y.locks) hand_is ∙ (beside_out asked bare).locks)
        (ap (λ y. y.ending) hand_is ∙ (beside_out asked bare).ending) (ap (λ y. y.claimed) hand_is ∙ (beside_out asked bare).claimed)

    -- works play no part in what is in hand
    bare_has : (d : Demand) → IsInHand d (h s) → IsInHand d bare
    bare_has Nothing k = k
    bare_has Bad k = k
    bare_has (Read g) k = k
    bare_has (Typed g t) k = k

    bare_spares : (d : Demand) → IsInHand d (h s) → Spares d (h s) → (g : ℕ) → IsTrue (is_closing_at g (h s)) → 0 < refs_to g (h s).refs → 0 < refs_to g (demand_out d bare).refs
    bare_spares Nothing k p g c l = l
    bare_spares Bad k p g c l = l
    bare_spares (Typed f t) k p g c l = l
    bare_spares (Read f) k p g c l = out_spares (Read f) (h s) k p g c l

    entries_more : (c : Demand → ℕ) → entries c (sizes_of n) m b ≡ entries c (sizes_of n) m h + c asked
    entries_more c =
        let one =
        entries-one c (sizes_of n) m m h b f (table_inside n m f sound.spelled (rw (work_word n m h s f e (works_facts n m h s f e sound vcpu may.here)) may.table))
        (mark_held_other n s m h b vcpu others sound f e may.here change works_now frames words may.unmarked) (λ g i off l. refl)
        in
        let was = work_held n m h s f e (works_facts n m h s f e sound vcpu may.here) sound.alone vcpu may.here may.table in
        let is = mark_held_here n s m h b vcpu others sound f e may.here change works_now frames words may.unmarked alone may.table ∙ more in
        let table = table_entries-more c m (work_of (sizes_of n).vcpus h f) (work_of (sizes_of n).vcpus b f) f e.recorded was is in
        let k = ap c stands in
        omega arith

    out_now : (g : ℕ) → (hand g (b s) + names g asked ≡ hand g (h s)) × (typed_hand g (b s) + names_typed g asked ≡ typed_hand g (h s))
    out_now g =
        let p = out_hand g asked bare (bare_has asked has.0) in
        let q = out_typed g asked bare (bare_has asked has.0) in
        let r = hand_alike g (h s) bare refl refl refl in
        rw hand_is (p ∙ r.0, q ∙ r.1)

    last_typed : (i g : ℕ) (t : PageType) → i < (change e).recorded → entry_demand m f i ≡ Typed g t → (kind_at m g).kind ≡ t
    last_typed i g t l k =
        elim (cases_eq i e.recorded) [
          | inl at ↦
              last_type n m h s f (kind_fields e.word).kind asked (sound.found s vcpu) (subst (HasLastDemand n f (kind_fields e.word).kind (h s)) (sym asked_is) may.in_hand) g t
              (sym stands ∙ ap (entry_demand m f) (sym at) ∙ k)
          | inr off ↦
              let was = work_held n m h s f e (works_facts n m h s f e sound vcpu may.here) sound.alone vcpu may.here may.table in
              let o : i ≢ e.recorded = off in
              sound.counts.kinds.entries f i g t (omega arith) k
        ]

    recorded_move : MarkMove n s m h b vcpu others sound f e may.here change
    recorded_move =
        record {
          works = works_now;
          frames = frames;
          words = words;
          table = may.table;
          unmarked = may.unmarked;
          locks = ap (λ y. y.locks) hand_is ∙ (beside_out asked bare).locks;
          ending = ap (λ y. y.ending) hand_is ∙ (beside_out asked bare).ending;
          claimed = ap (λ y. y.claimed) hand_is ∙ (beside_out asked bare).claimed;
          raised = ap (λ y. y.raised) hand_is ∙ (beside_out asked bare).raised;
          credits = ap (λ y. y.credits) hand_is ∙ (beside_out asked bare).credits;
          cache = ap (λ y. y.cache) hand_is ∙ (translations_out asked bare).cache;
          walk = ap (λ y. y.walk) hand_is ∙ (translations_out asked bare).walk;
          cold = ap (λ y. y.cold) hand_is ∙ (translations_out asked bare).cold;
          spares = λ g k l. rw hand_is (bare_spares asked has.0 has.1 g k l);
          refs = λ g. let k = entries_more (names g) in let o = (out_now g).0 in omega arith;
          types = λ g. let k = entries_more (names_typed g) in let o = (out_now g).1 in omega arith;
          last = last_typed;
          typed = rw hand_is (typed_out (λ y. HasType m y.frame y.kind) asked bare (sound.counts.kinds.typed s vcpu));
        }

    pub recorded_by : Outcome n m b
    recorded_by = marked_outcome n s m h b vcpu others sound f e may.here change recorded_move

  pub recorded_outcome : Recorded n f upto (h s) (b s) → Outcome n m b
  recorded_outcome d =
      recorded_by d.e d.may (λ y. record y { recorded = d.e.recorded + 1; unsettled = unsettled_by (sizes_of n) d.e (h s) }) (λ y. refl) (λ y. refl) refl (demand_seen d.e.recorded d.e)
      (ap (λ y. demand_at (kind_fields d.e.word).kind d.e.recorded (seen_word y)) d.may.seen) d.hand

  -- ---- the last recorded entry comes back
  module _ (e : Work) (may : MayShed f upto (h s) e) (change : Work → Work) (frames : (y : Work) → (change y).frame ≡ y.frame) (words : (y : Work) → (change y).word ≡ y.word)
      (fewer : (change e).recorded ≡ upto) (was_found : Demand) (clock_is : was_found ≡ demand_at (kind_fields e.word).kind upto may.word)
      (hand_is : b s ≡ demand_in (is_settled (sizes_of n) (h s) e) was_found (record (h s) { works = changed_work f change (h s).works })) where
    abbrev sure : Bool
    sure = is_settled (sizes_of n) (h s) e

    abbrev left : Holdings
    left = record (h s) { works = changed_work f change (h s).works }

    stood : entry_demand m f upto ≡ was_found
    stood = sym (loaded_asks n m h s f e (works_facts n m h s f e sound vcpu may.here) upto may.word may.table may.seen) ∙ sym clock_is

    shed_unmarked : (kind_fields e.word).unflushed ≡ false
    shed_unmarked = seen_unmarked n m h s f e (works_facts n m h s f e sound vcpu may.here) _ may.seen

    shed_works : (b s).works ≡ changed_work f change (h s).works
    shed_works = ap (λ y. y.works) hand_is ∙ (beside_in sure was_found left).works

    shed_alone : HeldAlone n m b
    shed_alone =
        mark_alone n s m h b vcpu others sound f e may.here change shed_works frames words shed_unmarked (ap (λ y. y.locks) hand_is ∙ (beside_in sure was_found left).locks)
        (ap (λ y. y.ending) hand_is ∙ (beside_in sure was_found left).ending) (ap (λ y. y.claimed) hand_is ∙ (beside_in sure was_found left).claimed)

    entries_fewer : (c : Demand → ℕ) → entries c (sizes_of n) m b + c was_found ≡ entries c (sizes_of n) m h
    entries_fewer c =
        let one =
        entries-one c (sizes_of n) m m h b f (table_inside n m f sound.spelled (rw (work_word n m h s f e (works_facts n m h s f e sound vcpu may.here)) may.table))
        (mark_held_other n s m h b vcpu others sound f e may.here change shed_works frames words shed_unmarked) (λ g i off l. refl)
        in
        let was = work_held n m h s f e (works_facts n m h s f e sound vcpu may.here) sound.alone vcpu may.here may.table ∙ may.last in
        let is = mark_held_here n s m h b vcpu others sound f e may.here change shed_works frames words shed_unmarked shed_alone may.table ∙ fewer in
        let table = table_entries-more c m (work_of (sizes_of n).vcpus b f) (work_of (sizes_of n).vcpus h f) f upto is was in
        let k = ap c stood in
        omega arith

    in_now : (g : ℕ) → (hand g (b s) ≡ hand g (h s) + names g was_found) × (typed_hand g (b s) ≡ typed_hand g (h s) + names_typed g was_found)
    in_now g =
        let p = in_hand sure g was_found left in
        let q = in_typed sure g was_found left in
        let r = hand_alike g (h s) left refl refl refl in
        rw hand_is (p ∙ ap (λ y. y + names g was_found) r.0, q ∙ ap (λ y. y + names_typed g was_found) r.1)

    entry_typed : (i g : ℕ) (t : PageType) → i < e.recorded → entry_demand m f i ≡ Typed g t → (kind_at m g).kind ≡ t
    entry_typed i g t l k =
        let was = work_held n m h s f e (works_facts n m h s f e sound vcpu may.here) sound.alone vcpu may.here may.table in
        sound.counts.kinds.entries f i g t (omega arith) k

    shed_move : MarkMove n s m h b vcpu others sound f e may.here change
    shed_move =
        let last = may.last in
        record {
          works = shed_works;
          frames = frames;
          words = words;
          table = may.table;
          unmarked = shed_unmarked;
          locks = ap (λ y. y.locks) hand_is ∙ (beside_in sure was_found left).locks;
          ending = ap (λ y. y.ending) hand_is ∙ (beside_in sure was_found left).ending;
          claimed = ap (λ y. y.claimed) hand_is ∙ (beside_in sure was_found left).claimed;
          raised = ap (λ y. y.raised) hand_is ∙ (beside_in sure was_found left).raised;
          credits = ap (λ y. y.credits) hand_is ∙ (beside_in sure was_found left).credits;
          cache = ap (λ y. y.cache) hand_is ∙ (translations_in sure was_found left).cache;
          walk = ap (λ y. y.walk) hand_is ∙ (translations_in sure was_found left).walk;
          cold = ap (λ y. y.cold) hand_is ∙ (translations_in sure was_found left).cold;
          spares = λ g k l. rw hand_is (in_more sure was_found left g l);
          refs = λ g. let k = entries_fewer (names g) in let o = (in_now g).0 in omega arith;
          types = λ g. let k = entries_fewer (names_typed g) in let o = (in_now g).1 in omega arith;
          last = λ i g t l k. let r = fewer in entry_typed i g t (omega arith) k;
          typed = rw hand_is (typed_in sure (λ y. HasType m y.frame y.kind) was_found left (λ g t k. entry_typed upto g t (omega arith) (stood ∙ k)) (sound.counts.kinds.typed s vcpu));
        }

    pub shed_by : Outcome n m b
    shed_by = marked_outcome n s m h b vcpu others sound f e may.here change shed_move

  pub shed_outcome : Shed n f upto (h s) (b s) → Outcome n m b
  shed_outcome d =
      shed_by d.e d.may (λ y. record y { recorded = upto; unsettled = None }) (λ y. refl) (λ y. refl) refl (demand_seen upto d.e)
      (ap (λ y. demand_at (kind_fields d.e.word).kind upto (seen_word y)) d.may.seen) d.hand
