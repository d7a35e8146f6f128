-- An entry is recorded, or comes back into the hand: what entries lead to and whom they are permitted.
use Rattle.std.proofs.Common.{◌≡◌, ◌≢◌, ℕ, ◌+◌, ◌<◌, ◌||◌, true, false, length, Some, None, IsTrue, refl, sym, ◌∙◌, ap, inl, inr, arith}
use Rattle.std.proofs.lemmas.Bool.{cases_eq, cases_Bool}
use Rattle.std.proofs.lemmas.Bool.Decides.{nat_tests}
use Rattle.xp_words.specs.declared.kind.KindWord.{KindWord}
use Rattle.xp_words.specs.declared.kind.PageType.{PageType}
use Rattle.xp_words.specs.declared.entry.Demand.{Demand}
use Rattle.xp_words.specs.declared.entry.Demand.TheVariants.{Nothing, Bad, Read, Typed}
use Rattle.xp_words.specs.Entries.{demand_at}
use Rattle.xp_words.specs.PageTypes.{is_table}
use Rattle.xp_words.specs.KindWords.{kind_fields}
use Rattle.xp_words.specs.Machine.{Machine}
use Rattle.xp_words.specs.declared.place.Place.{Place}
use Rattle.xp_words.specs.declared.place.Place.TheVariants.{Kind}
use Rattle.xp_words.specs.Places.{sizes_of}
use Rattle.xp_board.specs.declared.holdings.Work.{Work}
use Rattle.xp_board.specs.declared.holdings.Holdings.{Holdings}
use Rattle.xp_board.specs.Hands.{work_on, changed_work}
use Rattle.xp_board.specs.Readings.{kind_at, is_live, is_work, is_partial, is_live_word, type_count}
use Rattle.xp_board.specs.Knowledge.{knows_live}
use Rattle.xp_board.specs.Settling.{HasTyped, HasLastDemand}
use Rattle.xp_board.specs.Marks.{demand_seen, unsettled_by, seen_word}
use Rattle.xp_board.specs.Recorded.{held, held_of, entry_demand, recorded_in, recorded_number}
use Rattle.xp_board.specs.Valid.{Valid, Permitted, LeadsWell}
use Rattle.xp_board.specs.Sound.{Sound}
use Rattle.step_effects.proofs.MarkEffects.{Recorded, Shed}
use Rattle.xp_board.proofs.Counted.{typed_counted}
use Rattle.xp_board.proofs.Works.{work_of-mine, nobody_else}
use Rattle.type_rule.proofs.HandParts.{three_in, three_out}
use Rattle.xp_board.proofs.ListChanges.{first_by-changed_other, first_by-changed_here}
use Rattle.xp_board.proofs.WorkFacts.{Works, works_facts, loaded_asks}
use Rattle.xp_board.proofs.Settled.{nothing_unsettled, unsettled_mine}
use Rattle.type_rule.proofs.ValidLaw.{NewEntry}
use Rattle.type_rule.proofs.NewEntries.{owners_permit, demand_new}
use Rattle.type_rule.proofs.MarkRows.{MarkOn, mark_valid, mark_permitted}
use Rattle.xp_board.proofs.KindReadings.{busy_partial}
use Rattle.xp_board.proofs.MoreSteps.{none_since}
use Rattle.xp_board.proofs.HeldByForm.{held_table_work}

counted_form : (k : KindWord) → 0 < type_count k → is_live k ≡ false → IsTrue (is_partial k || is_work k)
unfolding type_count
counted_form k some off = grind (arith, nat_tests)

-- a typed demand of which the vCPU does not know that its frame is live is noted
unsettled_some : (n : Machine) (h : Holdings) (e : Work) (g : ℕ) (t : PageType) → demand_seen e.recorded e ≡ Typed g t → knows_live (sizes_of n) g t h ≡ false →
    unsettled_by (sizes_of n) e h ≡ Some (record { since = length h.steps; word = Some (seen_word e.seen) })
unsettled_some n h e g t asks off = rw (asks, off) refl

module _ (n : Machine) (s : ℕ) (m : Place → ℕ) (h b : ℕ → Holdings) (real : s < (sizes_of n).vcpus) (sound : Sound n m h)
    (others : (t : ℕ) → t ≢ s → b t ≡ h t) (steps : (b s).steps ≡ (h s).steps) where
  -- the number of entries of a table on which the vCPU works
  held_mine : (u : ℕ → Holdings) (f : ℕ) (e : Work) → ((t : ℕ) → t < (sizes_of n).vcpus → t ≢ s → work_on f (u t).works ≡ None) → work_on f (u s).works ≡ Some e →
      is_table (kind_at m f).kind ≡ true → held (sizes_of n) m u f ≡ e.recorded
  unfolding recorded_in
  held_mine u f e alone here table =
      ap (λ o. held_of (kind_at m f) o) (work_of-mine (sizes_of n).vcpus u s f real (λ t l off. ap recorded_number (alone t l off)) ∙ ap recorded_number here)
      ∙ held_table_work (kind_at m f) e.recorded table

  -- ---- an entry is recorded
  module _ (f upto : ℕ) (d : Recorded n f upto (h s) (b s)) where
    more : Work → Work
    more y = record y { recorded = d.e.recorded + 1; unsettled = unsettled_by (sizes_of n) d.e (h s) }

    k : Works n m h s f d.e
    k = works_facts n m h s f d.e sound real d.may.here

    word_is : kind_at m f ≡ kind_fields d.e.word
    word_is = ap kind_fields k.word

    table : is_table (kind_at m f).kind ≡ true
    table = rw word_is d.may.table

    works_are : (b s).works ≡ changed_work f more (h s).works
    unfolding more
    works_are = ap (λ u. u.works) d.hand ∙ (three_out (demand_seen d.e.recorded d.e) _).works

    here : work_on f (b s).works ≡ Some (more d.e)
    unfolding more
    here = ap (work_on f) works_are ∙ first_by-changed_here (λ y. y.frame) f more (h s).works d.e (λ y. refl) d.may.here

    alone_h : (t : ℕ) → t < (sizes_of n).vcpus → t ≢ s → work_on f (h t).works ≡ None
    alone_h = nobody_else n m h sound.alone f s real k.some

    held_h : held (sizes_of n) m h f ≡ d.e.recorded
    held_h = held_mine h f d.e alone_h d.may.here table

    held_b : held (sizes_of n) m b f ≡ d.e.recorded + 1
    unfolding more
    held_b = held_mine b f (more d.e) (λ t l off. rw (others t off) (alone_h t l off)) here table

    asks : demand_at (kind_fields d.e.word).kind d.e.recorded d.may.word ≡ entry_demand m f d.e.recorded
    asks = loaded_asks n m h s f d.e k d.e.recorded d.may.word d.may.table d.may.seen

    seen_is : demand_seen d.e.recorded d.e ≡ entry_demand m f d.e.recorded
    seen_is = ap (λ o. demand_at (kind_fields d.e.word).kind d.e.recorded (seen_word o)) d.may.seen ∙ asks

    -- the last entry leads to a live frame, or is noted
    last_leads : (g : ℕ) (t : PageType) → entry_demand m f d.e.recorded ≡ Typed g t → HasTyped n f g (kind_fields d.e.word).kind (h s) → LeadsWell (sizes_of n) m b f d.e.recorded g
    unfolding more
    last_leads g t e has =
        elim (cases_Bool (knows_live (sizes_of n) g t (h s))) [
          | inl known ↦ inl (((sound.found s real).lives g t known).0)
          | inr unknown ↦ elim (cases_Bool (is_live (kind_at m g))) [
            | inl live ↦ inl live
            | inr off ↦
                (let counted = typed_counted (sizes_of n) m h s g real sound.counts in
                let i = has.in_hand in
                inr (
                  counted_form (kind_at m g) (omega arith) off,
                  inr
                      (record {
                        vcpu = s;
                        real = real;
                        work = more d.e;
                        here = here;
                        last = refl;
                        unsettled = record { since = length (h s).steps; word = Some (seen_word d.e.seen) };
                        kept = unsettled_some n (h s) d.e g t (seen_is ∙ e) unknown;
                        unfound = rw steps (none_since (sizes_of n) (length (h s).steps) (Kind g) is_live_word (h s).steps (omega arith));
                      }),
                ))
          ]
        ]

    typed_new : (g : ℕ) (t : PageType) → entry_demand m f d.e.recorded ≡ Typed g t → HasTyped n f g (kind_fields d.e.word).kind (h s) → NewEntry n m b f d.e.recorded
    typed_new g t e has =
        record {
          allowed = λ q. let r = sym e ∙ q in cc;
          leads = λ i u q. let r : Typed g t ≡ Typed i u = sym e ∙ q in let at : g ≡ i = cc in rw (sym at) (last_leads g t e has);
          typed = λ i u q.
              let r : Typed g t ≡ Typed i u = sym e ∙ q in
              let at : g ≡ i = cc in
              rw (word_is) (rw (sym at) (owners_permit n s m m h b real sound (λ y. refl) (λ y. refl) (λ y. refl) f g (kind_fields d.e.word).kind has.owners));
          plain = λ i q. let r = sym e ∙ q in absurd (cc);
        }

    new_by : (q : Demand) → entry_demand m f d.e.recorded ≡ q → HasLastDemand n f (kind_fields d.e.word).kind (h s) q → NewEntry n m b f d.e.recorded
    new_by (Typed g t) e has = typed_new g t e has.0
    new_by Nothing e has = demand_new n s m m h b real sound (λ y. refl) (λ y. refl) (λ y. refl) f d.e.recorded (kind_fields d.e.word).kind Nothing (ap (λ y. y.kind) word_is) e has
    new_by Bad e has = absurd has
    new_by (Read g) e has = demand_new n s m m h b real sound (λ y. refl) (λ y. refl) (λ y. refl) f d.e.recorded (kind_fields d.e.word).kind (Read g) (ap (λ y. y.kind) word_is) e has

    -- the entries before it lead to live frames
    older_leads : (i g : ℕ) (t : PageType) → i < held (sizes_of n) m h f → entry_demand m f i ≡ Typed g t → LeadsWell (sizes_of n) m h f i g → LeadsWell (sizes_of n) m b f i g
    older_leads i g t l e (inl live) = inl live
    older_leads i g t l e (inr (form, inl last)) = absurd (busy_partial (kind_at m f) k.busy last.partial)
    older_leads i g t l e (inr (form, inr u)) = absurd (nothing_unsettled n m h s f d.e sound real k d.may.here d.may.table d.may.settled i g t e u)

    recorded_on : MarkOn n s m h b real sound others steps f
    unfolding more
    recorded_on =
        record {
          same = λ g off. ap (work_on g) works_are ∙ first_by-changed_other (λ y. y.frame) g f more (h s).works (λ y. refl) off;
          entry = λ i l. elim (cases_eq i d.e.recorded) [
            | inl at ↦ inr (rw at (new_by (entry_demand m f d.e.recorded) refl (rw asks at d.may.in_hand)))
            | inr off ↦ inl (let k2 : i ≢ d.e.recorded = off in let a = held_b in let q = held_h in omega arith)
          ];
          leads = λ i g t now l e leads. older_leads i g t l e leads;
        }

  pub recorded_valid : (f upto : ℕ) → Recorded n f upto (h s) (b s) → Valid (sizes_of n) m b
  recorded_valid f upto d = mark_valid n s m h b real sound others steps f (recorded_on f upto d)

  pub recorded_permitted : (f upto : ℕ) → Recorded n f upto (h s) (b s) → Permitted n m b
  recorded_permitted f upto d = mark_permitted n s m h b real sound others steps f (recorded_on f upto d)

  -- ---- the last entry comes back
  module _ (f upto : ℕ) (d : Shed n f upto (h s) (b s)) where
    fewer : Work → Work
    fewer y = record y { recorded = upto; unsettled = None }

    ks : Works n m h s f d.e
    ks = works_facts n m h s f d.e sound real d.may.here

    table_s : is_table (kind_at m f).kind ≡ true
    table_s = rw (ap kind_fields ks.word) d.may.table

    works_s : (b s).works ≡ changed_work f fewer (h s).works
    unfolding fewer
    works_s = ap (λ u. u.works) d.hand ∙ (three_in _ (demand_seen upto d.e) _).works

    here_s : work_on f (b s).works ≡ Some (fewer d.e)
    unfolding fewer
    here_s = ap (work_on f) works_s ∙ first_by-changed_here (λ y. y.frame) f fewer (h s).works d.e (λ y. refl) d.may.here

    alone_s : (t : ℕ) → t < (sizes_of n).vcpus → t ≢ s → work_on f (h t).works ≡ None
    alone_s = nobody_else n m h sound.alone f s real ks.some

    held_before : held (sizes_of n) m h f ≡ upto + 1
    held_before = held_mine h f d.e alone_s d.may.here table_s ∙ d.may.last

    held_after : held (sizes_of n) m b f ≡ upto
    unfolding fewer
    held_after = held_mine b f (fewer d.e) (λ t l off. rw (others t off) (alone_s t l off)) here_s table_s

    left_leads : (i g : ℕ) (t : PageType) → i < held (sizes_of n) m b f → LeadsWell (sizes_of n) m h f i g → LeadsWell (sizes_of n) m b f i g
    left_leads i g t l (inl live) = inl live
    left_leads i g t l (inr (form, inl last)) = absurd (busy_partial (kind_at m f) ks.busy last.partial)
    left_leads i g t l (inr (form, inr u)) =
        absurd
        (let own = unsettled_mine n m h s f d.e sound real ks i g u d.may.here in
        let last : i + 1 ≡ d.e.recorded = rw (← own.1) u.last in
        let a = held_after in
        let r = d.may.last in
        omega arith)

    shed_on : MarkOn n s m h b real sound others steps f
    unfolding fewer
    shed_on =
        record {
          same = λ g off. ap (work_on g) works_s ∙ first_by-changed_other (λ y. y.frame) g f fewer (h s).works (λ y. refl) off;
          entry = λ i l. inl (let a = held_before in let q = held_after in omega arith);
          leads = λ i g t now l e leads. left_leads i g t now leads;
        }

  pub shed_valid : (f upto : ℕ) → Shed n f upto (h s) (b s) → Valid (sizes_of n) m b
  shed_valid f upto d = mark_valid n s m h b real sound others steps f (shed_on f upto d)

  pub shed_permitted : (f upto : ℕ) → Shed n f upto (h s) (b s) → Permitted n m b
  shed_permitted f upto d = mark_permitted n s m h b real sound others steps f (shed_on f upto d)
