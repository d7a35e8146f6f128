-- Exchanges of a kind word, and type counts given back: what entries lead to stays.
use Rattle.std.proofs.Common.{◌≡◌, ◌≢◌, ℕ, ◌+◌, ◌<◌, ◌==◌, ◌||◌, if◌then◌else◌, false, length, Some, None, IsTrue, refl, sym, ◌∙◌, ap, inl, inr, arith}
use Rattle.std.proofs.lemmas.Bool.{cases_Bool}
use Rattle.std.proofs.lemmas.Bool.Decides.{nat_tests}
use Rattle.xp_words.specs.declared.kind.KindWord.{KindWord}
use Rattle.xp_words.specs.PageTypes.{is_table}
use Rattle.xp_words.specs.KindWords.{kind_fields}
use Rattle.xp_words.specs.Machine.{Machine}
use Rattle.xp_words.specs.declared.place.Place.{Place}
use Rattle.xp_words.specs.declared.place.Place.TheVariants.{Kind}
use Rattle.xp_words.specs.Places.{sizes_of}
use Rattle.xp_board.specs.declared.step.Step.{Step}
use Rattle.xp_board.specs.declared.holdings.Work.{Work}
use Rattle.xp_board.specs.declared.holdings.Holdings.{Holdings}
use Rattle.xp_board.specs.Hands.{work_on}
use Rattle.xp_board.specs.Readings.{kind_at, is_live, is_work, is_partial, is_dead, is_live_word}
use Rattle.xp_board.specs.KindSteps.{KindRow, Count, Locks, Pin, Unpin, Resume, TakeBack, Begin, MayResume, after_kind_row, still_looking, new_work, unsettled_from, closing_works}
use Rattle.xp_board.specs.Recorded.{held_of, recorded_number}
use Rattle.xp_board.specs.Valid.{Valid, Permitted}
use Rattle.xp_board.specs.Sound.{Sound, is_busy}
use Rattle.xp_board.proofs.KindForms.{live_form}
use Rattle.step_effects.proofs.ActEffects.{Turned}
use Rattle.type_rule.proofs.HandParts.{two_row}
use Rattle.type_rule.proofs.Works.{WorkKeptIn, works_kept}
use Rattle.xp_board.proofs.ListCounts.{first_by-cons_here, first_by-cons_other}
use Rattle.type_rule.proofs.EntryChange.{OneStep}
use Rattle.type_rule.proofs.QuietActs.{one_by}
use Rattle.type_rule.proofs.KindAct.{KindAct, nobody, not_unsettled, live_stays, kind_valid, kind_permitted}
use Rattle.xp_board.proofs.HeldByForm.{held_dead, held_same, live_partial, live_idle}
use Rattle.type_rule.proofs.KindHeld.{live_held, resumed_held, begun_held, closed_held, work_live, dead_unformed, either_part}
use Rattle.xp_board.proofs.KindReadings.{partial_idle, dead_idle}
use Rattle.xp_board.proofs.MoreSteps.{none_since}
use Rattle.xp_board.proofs.Sums.{either}
use Rattle.xp_board.proofs.Shared.{dead_unlive as dead_live}

resumed_work : (k l : KindWord) → MayResume k l → IsTrue (is_partial l || is_work l)
resumed_work k l may = let v : k.validated ≡ false = (let p = may.partial in grind arith) in rw may.left (rw v refl)

is_resumed : (k l : KindWord) → MayResume k l → l.validated ≡ false
is_resumed k l may = let v : k.validated ≡ false = (let p = may.partial in grind arith) in ap (λ y. y.validated) may.left ∙ v

-- ---- works
row_works : (row : KindRow) (f g : ℕ) (k l : KindWord) (new : ℕ) (h : Holdings) → g ≢ f → work_on g (after_kind_row row f k l new h).works ≡ work_on g h.works
row_works Count f g k l new h off = refl
row_works Locks f g k l new h off = refl
row_works Pin f g k l new h off = refl
row_works Unpin f g k l new h off = refl
row_works Resume f g k l new h off = first_by-cons_other (λ y. y.frame) g _ h.works (λ e. off (sym e))
row_works TakeBack f g k l new h off = refl
row_works Begin f g k l new h off = first_by-cons_other (λ y. y.frame) g _ h.works (λ e. off (sym e))

unsettled_some : (p : ℕ) (h : Holdings) → p ≢ 0 → unsettled_from p h ≡ Some (record { since = length h.steps + 1; word = None })
unsettled_some p h off = let t : (p == 0) ≡ false = grind (arith, nat_tests) in rw t refl

module _ (n : Machine) (s : ℕ) (x : Step) (m m2 : Place → ℕ) (b c : ℕ → Holdings) (real : s < (sizes_of n).vcpus) (sound : Sound n m b)
    (others : (t : ℕ) → t ≢ s → c t ≡ b t) where
  module _ (f : ℕ) (row : KindRow) (d : Turned n s x f row m m2 (b s) (c s)) where
    abbrev h1 : Holdings
    h1 = record (b s) { looking = still_looking f (m2 (Kind f)) (b s).looking }

    one : OneStep n s x m m2 b c
    one = one_by n s x m m2 b c real sound others (Kind f) _ d.wrote.place d.wrote.left d.hand ((two_row row f d.k d.l (m2 (Kind f)) h1).steps)

    works_are : (g : ℕ) → g ≢ f → work_on g (c s).works ≡ work_on g (b s).works
    works_are g off = ap (λ u. work_on g u.works) d.hand ∙ row_works row f g d.k d.l (m2 (Kind f)) h1 off

    works : (g : ℕ) → g ≢ f → WorkKeptIn (work_on g (b s).works) (work_on g (c s).works)
    works g off = rw (works_are g off) (works_kept (work_on g (b s).works))

    abbrev Goal : Type 0
    Goal = KindAct n s x m m2 b c real sound one f d.wrote.others works

  -- a live frame of which another count or mark is set
  live_row : (f : ℕ) (row : KindRow) (d : Turned n s x f row m m2 (b s) (c s)) → IsTrue (is_live d.k) → IsTrue (is_live d.l) → d.l.kind ≡ d.k.kind → 0 < d.k.number →
      (c s).works ≡ (b s).works → Goal f row d
  live_row f row d live is kind some works_same =
      let idle : is_busy (kind_at m f) ≡ false = rw d.fields_was (live_idle d.k live some) in
      let none = nobody n s x m m2 b c real sound (one f row d) f d.wrote.others (works f row d) idle s real in
      live_stays n s x m m2 b c real sound (one f row d) f d.wrote.others (works f row d) idle
      (rw d.fields_was live) (rw d.fields_is is) (ap (λ y. y.kind) d.fields_is ∙ kind ∙ sym (ap (λ y. y.kind) d.fields_was))
      (rw (works_same, none, d.fields_was, d.fields_is) (live_held d.k d.l live is kind))

  -- a partial frame without its `kept` mark
  back_row : (f : ℕ) (d : Turned n s x f TakeBack m m2 (b s) (c s)) → Goal f TakeBack d
  back_row f d =
      let may = d.may in
      let idle : is_busy (kind_at m f) ≡ false = rw d.fields_was (partial_idle d.k may.partial) in
      let none = nobody n s x m m2 b c real sound (one f TakeBack d) f d.wrote.others (works f TakeBack d) idle in
      let works_same : (c s).works ≡ (b s).works = ap (λ u. u.works) d.hand in
      let part : IsTrue (is_partial d.l) = rw may.left may.partial in
      record {
        table = record {
          alone = λ t l off. none t l;
          held = rw (works_same, none s real, d.fields_was, d.fields_is) (rw may.left (held_same d.k (record d.k { kept = false }) refl refl refl refl));
          kind = inl (rw (d.fields_was, d.fields_is) (ap (λ y. y.kind) may.left));
        };
        leads = record {
          live = λ g i t l e live. absurd (live_partial d.k (rw d.fields_was at live) may.partial);
          form = λ g i t l e form. inr (rw d.fields_is (either_part d.l part));
          last = λ i g last. inl (record { partial = rw d.fields_is part; last = last.last ∙ (rw (d.fields_was, d.fields_is) (sym (ap (λ y. y.progress) may.left))) });
          unsettled = λ i g t l e u. absurd (not_unsettled n s x m m2 b c real sound (one f TakeBack d) f d.wrote.others (works f TakeBack d) idle i g u);
        };
        fixed = λ i live desc l. absurd (live_partial d.l (rw d.fields_is at live) part);
        named = λ v k l h u e. absurd (live_partial d.k (rw d.fields_was at (sound.valid.contexts v k f l h u e)) may.partial);
      }

  -- a partial frame that comes into work again
  resume_row : (f : ℕ) (d : Turned n s x f Resume m m2 (b s) (c s)) → Goal f Resume d
  resume_row f d =
      let may = d.may in
      let idle : is_busy (kind_at m f) ≡ false = rw d.fields_was (partial_idle d.k may.partial) in
      let none = nobody n s x m m2 b c real sound (one f Resume d) f d.wrote.others (works f Resume d) idle in
      let e : Work = new_work f (m2 (Kind f)) d.k.progress (unsettled_from d.k.progress (b s)) (b s) in
      let here : work_on f (c s).works ≡ Some e = ap (λ u. work_on f u.works) d.hand ∙ first_by-cons_here (λ y. y.frame) f e (b s).works refl in
      let left : d.l.kind ≡ d.k.kind = ap (λ y. y.kind) may.left in
      let part : IsTrue (is_partial (kind_at m f)) = rw d.fields_was may.partial in
      record {
        table = record {
          alone = λ t l off. none t l;
          held = rw (here, none s real, d.fields_was, d.fields_is) (resumed_held d.k d.l may.partial left);
          kind = inl (rw (d.fields_was, d.fields_is) left);
        };
        leads = record {
          live = λ g i t l q live. absurd (live_partial (kind_at m f) live part);
          form = λ g i t l q form. inr (rw d.fields_is (resumed_work d.k d.l may));
          last = λ i g last. inr
              (record {
                vcpu = s;
                real = real;
                work = e;
                here = here;
                last = last.last ∙ ap (λ y. y.progress) d.fields_was;
                unsettled = record { since = length (b s).steps + 1; word = None };
                kept = unsettled_some d.k.progress (b s) (λ z. absurd (let w = last.last ∙ ap (λ y. y.progress) d.fields_was in omega arith));
                unfound = none_since (sizes_of n) (length (b s).steps + 1) (Kind g) is_live_word (c s).steps (let w = ap length ((one f Resume d).steps) in omega arith);
              });
          unsettled = λ i g t l q u. absurd (not_unsettled n s x m m2 b c real sound (one f Resume d) f d.wrote.others (works f Resume d) idle i g u);
        };
        fixed = λ i live desc l. absurd (work_live (kind_at m2 f) (rw d.fields_is (is_resumed d.k d.l may)) live);
        named = λ v k l h u q. absurd (live_partial (kind_at m f) (sound.valid.contexts v k f l h u q) part);
      }

  -- a dead frame that comes into work
  begin_row : (f : ℕ) (d : Turned n s x f Begin m m2 (b s) (c s)) → Goal f Begin d
  begin_row f d =
      let may = d.may in
      let dead : IsTrue (is_dead (kind_at m f)) = rw d.fields_was may.dead in
      let idle : is_busy (kind_at m f) ≡ false = dead_idle (kind_at m f) dead in
      let none = nobody n s x m m2 b c real sound (one f Begin d) f d.wrote.others (works f Begin d) idle in
      let e : Work = new_work f (m2 (Kind f)) 0 None (b s) in
      let here : work_on f (c s).works ≡ Some e = ap (λ u. work_on f u.works) d.hand ∙ first_by-cons_here (λ y. y.frame) f e (b s).works refl in
      record {
        table = record {
          alone = λ t l off. none t l;
          held = rw (here, none s real) (begun_held (kind_at m2 f) ∙ sym (held_dead (kind_at m f) dead));
          kind = inr (rw (none s real) (held_dead (kind_at m f) dead));
        };
        leads = record {
          live = λ g i t l q live. absurd (dead_live (kind_at m f) dead live);
          form = λ g i t l q form. absurd (dead_unformed (kind_at m f) dead form);
          last = λ i g last. absurd (dead_unformed (kind_at m f) dead (either_part (kind_at m f) last.partial));
          unsettled = λ i g t l q u. absurd (not_unsettled n s x m m2 b c real sound (one f Begin d) f d.wrote.others (works f Begin d) idle i g u);
        };
        fixed = λ i live desc l. absurd (let v : (kind_at m2 f).validated ≡ false = ap (λ y. y.validated) d.fields_is ∙ ap (λ y. y.validated) may.left in cc);
        named = λ v k l h u q. absurd (dead_live (kind_at m f) dead (sound.valid.contexts v k f l h u q));
      }

  turned_act : (f : ℕ) (row : KindRow) (d : Turned n s x f row m m2 (b s) (c s)) → Goal f row d
  turned_act f Count d = live_row f Count d d.may.live (rw d.may.left d.may.live) (ap (λ y. y.kind) d.may.left) d.may.counted (ap (λ u. u.works) d.hand)
  turned_act f Locks d = live_row f Locks d d.may.live (rw d.may.left d.may.live) (ap (λ y. y.kind) d.may.left) d.may.counted (ap (λ u. u.works) d.hand)
  turned_act f Pin d = live_row f Pin d d.may.live (rw d.may.left d.may.live) (ap (λ y. y.kind) d.may.left) d.may.counted (ap (λ u. u.works) d.hand)
  turned_act f Unpin d =
      live_row f Unpin d d.may.live (rw d.may.left d.may.live) (ap (λ y. y.kind) d.may.left) (((live_form (m (Kind f)) d.k d.was d.may.live).pinned d.may.pinned).1) (ap (λ u. u.works) d.hand)
  turned_act f Resume d = resume_row f d
  turned_act f TakeBack d = back_row f d
  turned_act f Begin d = begin_row f d

  pub turned_valid : (f : ℕ) (row : KindRow) → Turned n s x f row m m2 (b s) (c s) → Valid (sizes_of n) m2 c
  turned_valid f row d = kind_valid n s x m m2 b c real sound (one f row d) f d.wrote.others (works f row d) (turned_act f row d)

  pub turned_permitted : (f : ℕ) (row : KindRow) → Turned n s x f row m m2 (b s) (c s) → Permitted n m2 c
  turned_permitted f row d = kind_permitted n s x m m2 b c real sound (one f row d) f d.wrote.others (works f row d) (turned_act f row d)

  -- ---- a type count given back
  closing_other : (f g w left : ℕ) (h : Holdings) → g ≢ f → work_on g (closing_works f w left h) ≡ work_on g h.works
  closing_other f g w left h off = either (λ xs. work_on g xs ≡ work_on g h.works) ((kind_fields w).number == 1) _ h.works (first_by-cons_other (λ y. y.frame) g _ h.works (λ e. off (sym e))) refl

  -- the number of entries that stay recorded
  closing_held : (f w left : ℕ) (l : KindWord) → IsTrue (is_live l) → l.kind ≡ (kind_fields w).kind → work_on f (b s).works ≡ None →
      held_of l (recorded_number (work_on f (closing_works f w left (b s)))) ≡ held_of l None
  closing_held f w left l live kind none =
      elim (cases_Bool ((kind_fields w).number == 1)) [
        | inl last ↦
            rw last
            (ap (λ o. held_of l (recorded_number o)) (first_by-cons_here (λ y. y.frame) f (new_work f left (if is_table (kind_fields w).kind then 512 else 0) None (b s)) (b s).works refl)
            ∙ ap (λ k. held_of l (Some (if is_table k then 512 else 0))) (sym kind) ∙ closed_held l live)
        | inr more ↦ rw more (ap (λ o. held_of l (recorded_number o)) none)
      ]

  module _ (f : ℕ) (y : Holdings) (same : (p : Place) → p ≢ Kind f → m2 p ≡ m p) (one_more : OneStep n s x m m2 b c)
      (works_is : (c s).works ≡ closing_works f (m (Kind f)) (m2 (Kind f)) (b s)) (live : IsTrue (is_live (kind_at m f))) (some : 0 < (kind_at m f).number)
      (is : IsTrue (is_live (kind_at m2 f))) (kind : (kind_at m2 f).kind ≡ (kind_at m f).kind) where
    down_works : (g : ℕ) → g ≢ f → WorkKeptIn (work_on g (b s).works) (work_on g (c s).works)
    down_works g off = rw (ap (work_on g) works_is ∙ closing_other f g (m (Kind f)) (m2 (Kind f)) (b s) off) (works_kept (work_on g (b s).works))

    down_act : KindAct n s x m m2 b c real sound one_more f same down_works
    down_act =
        let idle = live_idle (kind_at m f) live some in
        let none = nobody n s x m m2 b c real sound one_more f same down_works idle s real in
        live_stays n s x m m2 b c real sound one_more f same down_works idle live is kind
        (rw works_is (closing_held f (m (Kind f)) (m2 (Kind f)) (kind_at m2 f) is kind none ∙ live_held (kind_at m f) (kind_at m2 f) live is kind))

    pub down_valid : Valid (sizes_of n) m2 c
    down_valid = kind_valid n s x m m2 b c real sound one_more f same down_works down_act

    pub down_permitted : Permitted n m2 c
    down_permitted = kind_permitted n s x m m2 b c real sound one_more f same down_works down_act
