-- Stores of the kind word of a frame in work or closing: what entries lead to stays.
use Rattle.std.proofs.Common.{◌≡◌, ◌≢◌, ℕ, ◌+◌, ◌<◌, ◌==◌, ◌||◌, ◌⊎◌, true, false, length, Some, None, IsTrue, refl, sym, ◌∙◌, ap, subst, inl, inr, arith}
use Rattle.xp_words.specs.declared.kind.KindWord.{KindWord}
use Rattle.xp_words.specs.declared.kind.PageType.{PageType}
use Rattle.xp_words.specs.declared.kind.PageType.TheVariants as kinds
use Rattle.xp_words.specs.declared.entry.Demand.TheVariants.{Typed}
use Rattle.xp_words.specs.PageTypes.{is_table}
use Rattle.xp_words.specs.KindWords.{kind_fields}
use Rattle.xp_words.specs.Machine.{Machine}
use Rattle.xp_words.specs.declared.place.Place.{Place}
use Rattle.xp_words.specs.declared.place.Place.TheVariants.{Vcpu, Kind, Cell}
use Rattle.xp_words.specs.Places.{sizes_of}
use Rattle.xp_board.specs.declared.step.Step.{Step}
use Rattle.xp_board.specs.declared.holdings.Unsettled.{Unsettled}
use Rattle.xp_board.specs.declared.holdings.Work.{Work}
use Rattle.xp_board.specs.declared.holdings.Holdings.{Holdings}
use Rattle.xp_board.specs.Steps.{some_since}
use Rattle.xp_board.specs.Hands.{work_on, without_work, typed_to, typed_hand}
use Rattle.xp_board.specs.Readings.{kind_at, is_live, is_work, is_partial, is_live_word}
use Rattle.xp_board.specs.KindSteps.{Form, Live, Partial, InWork, Dead, after_form, made_live, made_dead}
use Rattle.xp_board.specs.After.{is_fixed, noted}
use Rattle.xp_board.specs.Recorded.{held, held_of, entry_demand, recorded_number}
use Rattle.xp_board.specs.Valid.{Valid, Permitted, IsLastOfPartial, is_live_context}
use Rattle.xp_board.specs.Sound.{Sound}
use Rattle.step_effects.proofs.ActEffects.{Stored}
use Rattle.xp_board.proofs.Works.{nobody_else, one_works}
use Rattle.type_rule.proofs.HandParts.{two_live, two_dead, three_as_typed}
use Rattle.type_rule.proofs.Works.{WorkKeptIn, works_kept}
use Rattle.xp_board.proofs.ListCounts.{first_by-without_other, first_by-none, times_by-without_one}
use Rattle.xp_board.proofs.ListChanges.{first_by-changed_other, first_by-changed_here}
use Rattle.type_rule.proofs.Counted.{entry_counted, context_counted}
use Rattle.xp_board.proofs.WorkFacts.{Works, works_facts}
use Rattle.xp_board.proofs.Settled.{settled_found, unsettled_mine}
use Rattle.xp_board.proofs.FormsLeft.{is_live_left, is_partial_left, is_work_left, is_dead_left}
use Rattle.type_rule.proofs.EntryChange.{OneStep}
use Rattle.type_rule.proofs.QuietActs.{one_by}
use Rattle.type_rule.proofs.ValidLaw.{live_is_context}
use Rattle.type_rule.proofs.KindAct.{KindAct, kind_valid, kind_permitted}
use Rattle.xp_board.proofs.HeldByForm.{held_table}
use Rattle.type_rule.proofs.KindHeld.{live_all, partial_all, work_all, dead_all}
use Rattle.xp_board.proofs.KindReadings.{busy_closed, busy_working, busy_partial, work_count}
use Rattle.xp_board.proofs.Sums.{either}

live_works : (f : ℕ) (l : KindWord) (h : Holdings) → (made_live f l h).works ≡ without_work f h.works
live_works f l h = either (λ (u : Holdings). u.works ≡ without_work f h.works) (l.number == 1) _ _ refl refl

dead_works : (f : ℕ) (e : Work) (h : Holdings) → (made_dead f e h).works ≡ without_work f h.works
dead_works f e h = either (λ (u : Holdings). u.works ≡ without_work f h.works) (is_work (kind_fields e.word)) _ _ refl refl

module _ (n : Machine) (s : ℕ) (x : Step) (m m2 : Place → ℕ) (b c : ℕ → Holdings) (real : s < (sizes_of n).vcpus) (sound : Sound n m b)
    (others : (t : ℕ) → t ≢ s → c t ≡ b t) where
  module _ (f : ℕ) (form : Form) (d : Stored n s x f form m m2 (b s) (c s)) (same : (p : Place) → p ≢ Kind f → m2 p ≡ m p) (one : OneStep n s x m m2 b c)
      (works : (g : ℕ) → g ≢ f → WorkKeptIn (work_on g (b s).works) (work_on g (c s).works)) where
    k : Works n m b s f d.e
    k = works_facts n m b s f d.e sound real d.here

    word_is : kind_at m f ≡ kind_fields d.e.word
    word_is = ap kind_fields k.word

    -- nothing typed names a frame that is closing
    closed : (i g : ℕ) (t : PageType) → i < held (sizes_of n) m b g → entry_demand m g i ≡ Typed f t → (kind_at m f).validated ≡ true → ⊥
    closed i g t l e live = let counted = entry_counted n m b s g i f t sound real l e in let z = busy_closed (kind_at m f) k.busy live in absurd (omega arith)

    named_nowhere : (v j : ℕ) → v < (sizes_of n).vcpus → j < 38 → IsTrue (is_live_context j) → m (Vcpu v j) ≡ f + 1 → ⊥
    named_nowhere v j l h u e =
        let counted = context_counted n m b s v j f sound.counts real l h (live_is_context j u) e in
        let z = busy_closed (kind_at m f) k.busy (sound.valid.contexts v j f l h u e) in
        absurd (omega arith)

    -- what is left to show, by form
    act_of : held_of (kind_at m2 f) (recorded_number (work_on f (c s).works)) ≡ held_of (kind_at m f) (Some d.e.recorded) → (kind_at m2 f).kind ≡ (kind_at m f).kind →
        ((i g : ℕ) (t : PageType) → i < held (sizes_of n) m b g → entry_demand m g i ≡ Typed f t → IsTrue (is_work (kind_at m f)) →
        IsTrue (is_live (kind_at m2 f)) ⊎ IsTrue (is_partial (kind_at m2 f) || is_work (kind_at m2 f))) →
        ((i g : ℕ) (t : PageType) → i < held (sizes_of n) m b f → entry_demand m f i ≡ Typed g t → (u : Unsettled) → i + 1 ≡ d.e.recorded → d.e.unsettled ≡ Some u →
        some_since (sizes_of n) u.since (Kind g) is_live_word (b s).steps ≡ false → IsLastOfPartial m2 f i) →
        ((i : ℕ) → IsTrue (is_live (kind_at m2 f)) → (kind_at m2 f).kind ≡ kinds.Desc → i < 512 → IsTrue (is_fixed (m (Cell f i)))) →
        KindAct n s x m m2 b c real sound one f same works
    act_of holds kind forms unsettled fixed =
        record {
          table = record {
            alone = nobody_else n m b sound.alone f s real k.some;
            held = holds ∙ ap (λ o. held_of (kind_at m f) (recorded_number o)) (sym d.here);
            kind = inl kind;
          };
          leads = record {
            live = λ g i t l e live. absurd (closed i g t l e live);
            form = λ g i t l e form. forms i g t l e (busy_working (kind_at m f) k.busy form);
            last = λ i g last. absurd (busy_partial (kind_at m f) k.busy last.partial);
            unsettled = λ i g t l e u.
                let own = unsettled_mine n m b s f d.e sound real k i g u d.here in
                inr (inl (unsettled i g t l e u.unsettled (rw (← own.1) u.last) (rw (← own.1) u.kept) (rw (own.0) at u.unfound)));
          };
          fixed = fixed;
          named = λ v j l h u e. absurd (named_nowhere v j l h u e);
        }

  -- ---- by form
  module _ (f : ℕ) where
    taken_works : (y : Holdings) (x0 : ℕ) → c s ≡ noted x x0 y → y.works ≡ without_work f (b s).works → (g : ℕ) → g ≢ f → WorkKeptIn (work_on g (b s).works) (work_on g (c s).works)
    taken_works y x0 hand at g off = rw (ap (λ u. work_on g u.works) hand ∙ ap (work_on g) at ∙ first_by-without_other (λ y. y.frame) g f (b s).works off) (works_kept (work_on g (b s).works))

    taken_none : (y : Holdings) (x0 : ℕ) (e : Work) → work_on f (b s).works ≡ Some e → c s ≡ noted x x0 y → y.works ≡ without_work f (b s).works → work_on f (c s).works ≡ None
    taken_none y x0 e here hand at =
        ap (λ u. work_on f u.works) hand ∙ ap (work_on f) at
        ∙ first_by-none (λ y. y.frame) f (without_work f (b s).works) (times_by-without_one (λ y. y.frame) f (b s).works (one_works n m b sound.alone f s real))

    live_one : Stored n s x f Live m m2 (b s) (c s) → OneStep n s x m m2 b c
    live_one d = one_by n s x m m2 b c real sound others (Kind f) _ d.wrote.place d.wrote.left d.hand ((two_live f d.l (b s)).steps)

    live_works_of : Stored n s x f Live m m2 (b s) (c s) → (g : ℕ) → g ≢ f → WorkKeptIn (work_on g (b s).works) (work_on g (c s).works)
    live_works_of d = taken_works _ _ d.hand (live_works f d.l (b s))

    live_act : (d : Stored n s x f Live m m2 (b s) (c s)) → KindAct n s x m m2 b c real sound (live_one d) f d.wrote.others (live_works_of d)
    live_act d =
        let w = word_is f Live d d.wrote.others (live_one d) (live_works_of d) in
        let k = works_facts n m b s f d.e sound real d.here in
        let none = taken_none _ _ d.e d.here d.hand (live_works f d.l (b s)) in
        let is : IsTrue (is_live d.l) = is_live_left d.l d.form_is in
        act_of f Live d d.wrote.others (live_one d) (live_works_of d)
        (rw (none, d.fields_is, w) (live_all d.l (kind_fields d.e.word) d.e.recorded d.may.kind is (λ t. (d.may.table t).0)))
        (rw (d.fields_is, w) d.may.kind)
        (λ g i t l e form. inl (rw d.fields_is is))
        (λ i g t l e u last some unfound.
        absurd
        (let t2 = subst (λ y. is_table y.kind ≡ true) w (held_table (kind_at m f) _ i l) in
        let settled = (d.may.table (subst (λ y. IsTrue (is_table y)) (sym d.may.kind) t2)).1 in
        let found = settled_found n m b s f i g t d.e u k t2 some last e settled in
        cc))
        (λ i live desc l. rw (sym k.frame) (k.found.fixed i (let q = d.may.descriptors (ap (λ y. y.kind) (sym d.fields_is) ∙ desc) in omega arith)))

    pub live_valid : Stored n s x f Live m m2 (b s) (c s) → Valid (sizes_of n) m2 c
    live_valid d = kind_valid n s x m m2 b c real sound (live_one d) f d.wrote.others (live_works_of d) (live_act d)

    pub live_permitted : Stored n s x f Live m m2 (b s) (c s) → Permitted n m2 c
    live_permitted d = kind_permitted n s x m m2 b c real sound (live_one d) f d.wrote.others (live_works_of d) (live_act d)

    -- ---- partial
    part_works : (d : Stored n s x f Partial m m2 (b s) (c s)) → (after_form Partial n s f d.e d.l (m2 (Kind f)) (b s)).works ≡ without_work f (b s).works
    part_works d = ap (without_work f) ((three_as_typed f d.e (b s)).works)

    part_one : Stored n s x f Partial m m2 (b s) (c s) → OneStep n s x m m2 b c
    part_one d = one_by n s x m m2 b c real sound others (Kind f) _ d.wrote.place d.wrote.left d.hand ((three_as_typed f d.e (b s)).steps)

    part_works_of : Stored n s x f Partial m m2 (b s) (c s) → (g : ℕ) → g ≢ f → WorkKeptIn (work_on g (b s).works) (work_on g (c s).works)
    part_works_of d = taken_works _ _ d.hand (part_works d)

    part_act : (d : Stored n s x f Partial m m2 (b s) (c s)) → KindAct n s x m m2 b c real sound (part_one d) f d.wrote.others (part_works_of d)
    part_act d =
        let w = word_is f Partial d d.wrote.others (part_one d) (part_works_of d) in
        let none = taken_none _ _ d.e d.here d.hand (part_works d) in
        let form = is_partial_left d.l d.form_is in
        let part : IsTrue (is_partial d.l) = rw (form.0, form.1) refl in
        act_of f Partial d d.wrote.others (part_one d) (part_works_of d)
        (rw (none, d.fields_is, w) (partial_all d.l (kind_fields d.e.word) d.e.recorded d.may.kind form.0 form.1 d.may.progress))
        (rw (d.fields_is, w) d.may.kind)
        (λ g i t l e work. inr (rw d.fields_is (rw part refl)))
        (λ i g t l e u last some unfound. record { partial = rw d.fields_is part; last = last ∙ rw d.fields_is (sym d.may.progress) })
        (λ i live desc l. absurd (let v = ap (λ y. y.validated) d.fields_is ∙ form.0 in cc))

    pub part_valid : Stored n s x f Partial m m2 (b s) (c s) → Valid (sizes_of n) m2 c
    part_valid d = kind_valid n s x m m2 b c real sound (part_one d) f d.wrote.others (part_works_of d) (part_act d)

    pub part_permitted : Stored n s x f Partial m m2 (b s) (c s) → Permitted n m2 c
    part_permitted d = kind_permitted n s x m m2 b c real sound (part_one d) f d.wrote.others (part_works_of d) (part_act d)

    -- ---- the mark goes off
    work_one : Stored n s x f InWork m m2 (b s) (c s) → OneStep n s x m m2 b c
    work_one d = one_by n s x m m2 b c real sound others (Kind f) _ d.wrote.place d.wrote.left d.hand refl

    abbrev unmark : (d : Stored n s x f InWork m m2 (b s) (c s)) → Work → Work
    unmark d e = record e { word = m2 (Kind f); unmarked = length (b s).steps + 1 }

    work_works_of : Stored n s x f InWork m m2 (b s) (c s) → (g : ℕ) → g ≢ f → WorkKeptIn (work_on g (b s).works) (work_on g (c s).works)
    work_works_of d g off =
        rw (ap (λ u. work_on g u.works) d.hand ∙ first_by-changed_other (λ y. y.frame) g f (unmark d) (b s).works (λ e. refl) off) (works_kept (work_on g (b s).works))

    work_act : (d : Stored n s x f InWork m m2 (b s) (c s)) → KindAct n s x m m2 b c real sound (work_one d) f d.wrote.others (work_works_of d)
    work_act d =
        let w = word_is f InWork d d.wrote.others (work_one d) (work_works_of d) in
        let k = works_facts n m b s f d.e sound real d.here in
        let here : work_on f (c s).works ≡ Some (unmark d d.e) = ap (λ u. work_on f u.works) d.hand ∙ first_by-changed_here (λ y. y.frame) f (unmark d) (b s).works d.e (λ e. refl) d.here in
        let form = is_work_left d.l d.form_is in
        let kind : d.l.kind ≡ (kind_fields d.e.word).kind = ap (λ y. y.kind) d.may.left in
        let work : IsTrue (is_partial d.l || is_work d.l) = rw (form.0, form.1, form.2) refl in
        act_of f InWork d d.wrote.others (work_one d) (work_works_of d)
        (rw (here, d.fields_is, w) (work_all d.l (kind_fields d.e.word) d.e.recorded kind))
        (rw (d.fields_is, w) kind)
        (λ g i t l e was. inr (rw d.fields_is work))
        (λ i g t l e u last some unfound. absurd (let z = k.agrees.marked d.may.marked in omega arith))
        (λ i live desc l. absurd (let v = ap (λ y. y.validated) d.fields_is ∙ form.0 in cc))

    pub work_valid : Stored n s x f InWork m m2 (b s) (c s) → Valid (sizes_of n) m2 c
    work_valid d = kind_valid n s x m m2 b c real sound (work_one d) f d.wrote.others (work_works_of d) (work_act d)

    pub work_permitted : Stored n s x f InWork m m2 (b s) (c s) → Permitted n m2 c
    work_permitted d = kind_permitted n s x m m2 b c real sound (work_one d) f d.wrote.others (work_works_of d) (work_act d)

    -- ---- dead
    dead_one : Stored n s x f Dead m m2 (b s) (c s) → OneStep n s x m m2 b c
    dead_one d = one_by n s x m m2 b c real sound others (Kind f) _ d.wrote.place d.wrote.left d.hand ((two_dead f d.e (b s)).steps)

    dead_works_of : Stored n s x f Dead m m2 (b s) (c s) → (g : ℕ) → g ≢ f → WorkKeptIn (work_on g (b s).works) (work_on g (c s).works)
    dead_works_of d = taken_works _ _ d.hand (dead_works f d.e (b s))

    -- from work the only type count is in hand
    dead_named : (d : Stored n s x f Dead m m2 (b s) (c s)) → (i g : ℕ) (t : PageType) → i < held (sizes_of n) m b g → entry_demand m g i ≡ Typed f t → IsTrue (is_work (kind_at m f)) → ⊥
    unfolding typed_hand
    dead_named d i g t l e work =
        let w = word_is f Dead d d.wrote.others (dead_one d) (dead_works_of d) in
        let mine : 0 < typed_to f (b s).typed = d.may.counts (subst (λ y. IsTrue (is_work y)) w work) in
        let counted = entry_counted n m b s g i f t sound real l e in
        let one = work_count (kind_at m f) work in
        absurd (omega arith)

    dead_act : (d : Stored n s x f Dead m m2 (b s) (c s)) → KindAct n s x m m2 b c real sound (dead_one d) f d.wrote.others (dead_works_of d)
    dead_act d =
        let w = word_is f Dead d d.wrote.others (dead_one d) (dead_works_of d) in
        let none = taken_none _ _ d.e d.here d.hand (dead_works f d.e (b s)) in
        let form = is_dead_left d.l d.form_is in
        act_of f Dead d d.wrote.others (dead_one d) (dead_works_of d)
        (rw (none, d.fields_is, w, d.may.none) (dead_all d.l (kind_fields d.e.word) form.0 form.1))
        (rw (d.fields_is, w) d.may.kind)
        (λ g i t l e work. absurd (dead_named d g i t l e work))
        (λ i g t l e u last some unfound. absurd (let z = d.may.none in omega arith))
        (λ i live desc l. absurd (let v = ap (λ y. y.validated) d.fields_is ∙ form.0 in cc))

    pub dead_valid : Stored n s x f Dead m m2 (b s) (c s) → Valid (sizes_of n) m2 c
    dead_valid d = kind_valid n s x m m2 b c real sound (dead_one d) f d.wrote.others (dead_works_of d) (dead_act d)

    pub dead_permitted : Stored n s x f Dead m m2 (b s) (c s) → Permitted n m2 c
    dead_permitted d = kind_permitted n s x m m2 b c real sound (dead_one d) f d.wrote.others (dead_works_of d) (dead_act d)

  pub stored_valid : (f : ℕ) (form : Form) → Stored n s x f form m m2 (b s) (c s) → Valid (sizes_of n) m2 c
  stored_valid f Live d = live_valid f d
  stored_valid f Partial d = part_valid f d
  stored_valid f InWork d = work_valid f d
  stored_valid f Dead d = dead_valid f d

  pub stored_permitted : (f : ℕ) (form : Form) → Stored n s x f form m m2 (b s) (c s) → Permitted n m2 c
  stored_permitted f Live d = live_permitted f d
  stored_permitted f Partial d = part_permitted f d
  stored_permitted f InWork d = work_permitted f d
  stored_permitted f Dead d = dead_permitted f d
