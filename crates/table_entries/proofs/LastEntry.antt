-- What any sound state says of the last recorded entry of a table in the own works, and of the frame that it names.
use Rattle.std.proofs.Common.{◌≡◌, ◌⊎◌, ℕ, ◌+◌, ◌<◌, ◌≤◌, ◌||◌, nat_lt, true, false, Option, Some, None, IsTrue, refl, sym, ap, ◌∙◌, subst, arith, inl, inr, if◌then◌else◌}
use Rattle.xp_words.specs.Entries.{is_lowest, demand_at}
use Rattle.xp_words.specs.KindWords.{kind_fields}
use Rattle.xp_words.specs.Machine.{Machine}
use Rattle.xp_words.specs.PageTypes.{is_table}
use Rattle.xp_words.specs.Places.{is_place, sizes_of}
use Rattle.xp_words.specs.RefWords.{ref_read}
use Rattle.xp_words.specs.declared.entry.Demand.TheVariants.{Read, Typed}
use Rattle.xp_words.specs.declared.kind.KindWord.{KindWord}
use Rattle.xp_words.specs.declared.kind.PageType.{PageType}
use Rattle.xp_words.specs.declared.place.Place.{Place}
use Rattle.xp_words.specs.declared.place.Place.TheVariants.{Kind, Refs}
use Rattle.xp_board.specs.declared.holdings.Holdings.{Holdings}
use Rattle.xp_board.specs.declared.holdings.Unsettled.{Unsettled}
use Rattle.xp_board.specs.declared.holdings.Work.{Work}
use Rattle.xp_board.specs.Hands.{work_on}
use Rattle.xp_board.specs.Readings.{is_live, is_live_word, is_partial, is_work, kind_at, ref_count, type_count, owner_of}
use Rattle.xp_board.specs.Recorded.{entries, entry_demand, held, marks, names_typed}
use Rattle.xp_board.specs.Sound.{Sound}
use Rattle.xp_board.specs.Steps.{some_since}
use Rattle.xp_board.specs.Valid.{EntryPermitted, IsLastOfPartial, IsUnsettled}
use Rattle.std.proofs.lemmas.Bool.{cases_Bool}
use Rattle.std.proofs.lemmas.Bool.Decides.{nat_tests}
use Rattle.xp_board.proofs.HandLists.{first-some}
use Rattle.xp_board.proofs.Sums.{no_bit, when_eq}
use Rattle.xp_board.proofs.Counted.{entries-part, held_inside, names_typed-typed, plain_counted, type_below}
use Rattle.xp_board.proofs.KindReadings.{busy_partial, partial_parts}
use Rattle.xp_board.proofs.WorkFacts.{Works, work_held, work_word, works_facts, loaded_asks}
use Rattle.xp_board.proofs.Works.{one_vcpu}
use Rattle.xp_board.specs.After.{learned_last, learned_work}
use Rattle.xp_board.specs.Told.{Finds}
use Rattle.table_words.specs.Entries.{ShedsLast}
use Rattle.table_entries.proofs.HandReady.{learned_word, unmarked_learns}

-- a frame that the machine has not has no count
pub counted_inside : (n : Machine) (m : Place → ℕ) (h : ℕ → Holdings) (g : ℕ) → Sound n m h → 0 < ref_count (m (Refs g)) → g < n.frames
unfolding is_place ref_count ref_read
counted_inside n m h g sound some =
    elim (cases_Bool (nat_lt g n.frames)) [
      | inl there ↦ grind (arith, nat_tests)
      | inr out ↦
          let none : m (Refs g) ≡ 0 = sound.spelled.outside (Refs g) out in
          let zero : ref_count (m (Refs g)) ≡ 0 = ap ref_count none in
          absurd (omega (arith, zero, some))
    ]

pub partial_count : (k : KindWord) → IsTrue (is_partial k) → type_count k ≡ 1
unfolding type_count
partial_count k partial = let parts = partial_parts k partial in rw (parts.0, parts.1) refl

same_unsettled : (e w : Work) (u : Unsettled) → Some w ≡ Some e → w.unsettled ≡ Some u → e.unsettled ≡ Some u
same_unsettled e w u is at = let same : w ≡ e = cc in subst (λ (y : Work). y.unsettled ≡ Some u) same at

-- what the owner of the table says of that of the frame, above level 1
owned_above : (m : Place → ℕ) (t : PageType) (o : Option ℕ) (g d : ℕ) → o ≡ Some d → is_lowest t ≡ false → EntryPermitted m t o g → owner_of (m (Refs g)) ≡ Some d
owned_above m t (Some x) g d is above (inl own) = own ∙ is
owned_above m t (Some x) g d is above (inr low) = absurd (let a = low.0 in cc)
owned_above m t None g d is above never = absurd never

-- ---- what a step finds, where the entry is the last recorded one of a table in the hand
module _ {n : Machine} {s : ℕ} {h : Holdings} {p : Place} {x : ℕ} (finds : Finds n s h p x) (f i : ℕ) (t : PageType) (e : Work) (here : work_on f h.works ≡ Some e) (kind : (kind_fields e.word).kind ≡ t)
    (table : IsTrue (is_table t)) (last : e.recorded ≡ i + 1) where
  mine_here : work_on f (finds.hands s).works ≡ Some e
  mine_here = ap (λ (u : Holdings). work_on f u.works) finds.mine ∙ here

  table_is : is_table (kind_fields e.word).kind ≡ true
  table_is = ap is_table kind ∙ table

  facts : Works n finds.words finds.hands s f e
  facts = works_facts n finds.words finds.hands s f e finds.sound finds.real mine_here

  -- the table's type, and that the entry counts
  pub table_kind : (kind_at finds.words f).kind ≡ (kind_fields e.word).kind
  table_kind = ap (λ (k : KindWord). k.kind) (work_word n finds.words finds.hands s f e facts)

  pub is_held : i < held (sizes_of n) finds.words finds.hands f
  is_held = let all = work_held n finds.words finds.hands s f e facts finds.sound.alone finds.real mine_here table_is in omega (arith, all, last)

  -- ---- it asks a reference alone
  pub finds_plain : (g : ℕ) → entry_demand finds.words f i ≡ Read g → g < n.frames
  finds_plain g asks = counted_inside n finds.words finds.hands g finds.sound (plain_counted n finds.words finds.hands f i g finds.sound is_held asks)

  -- ---- it asks a type
  module _ (g : ℕ) (want : PageType) (asks : entry_demand finds.words f i ≡ Typed g want) where
    pub finds_kind : (kind_at finds.words g).kind ≡ want
    finds_kind = finds.sound.counts.kinds.entries f i g want is_held asks

    entered : 1 ≤ entries (names_typed g) (sizes_of n) finds.words finds.hands
    entered =
        let inside = held_inside n finds.words finds.hands f i finds.sound.spelled is_held in
        let part = entries-part (names_typed g) (sizes_of n) finds.words finds.hands f i inside is_held in
        let one = names_typed-typed g want (entry_demand finds.words f i) asks in
        omega (arith, part, one)

    pub finds_counts : 0 < type_count (kind_at finds.words g)
    finds_counts = let some = entered in let all = finds.sound.counts.types g in omega (arith, some, all)

    pub finds_referred : 0 < ref_count (finds.words (Refs g))
    finds_referred = let some = finds_counts in let low = type_below (sizes_of n) finds.words finds.hands g finds.sound.counts in omega (arith, some, low)

    pub finds_inside : g < n.frames
    finds_inside = counted_inside n finds.words finds.hands g finds.sound finds_referred

    -- It is live. Or the entry is unsettled, the vCPU has not found the frame live since, and it is partial or in work.
    pub finds_leads : IsTrue (is_live (kind_at finds.words g))
        ⊎ (IsTrue (is_partial (kind_at finds.words g) || is_work (kind_at finds.words g)) × ((u : Unsettled) × (e.unsettled ≡ Some u) × (some_since (sizes_of n) u.since (Kind g) is_live_word h.steps ≡ false)))
    finds_leads = by_way (finds.sound.valid.live f i g want is_held asks)
      where
        mine : (x : IsUnsettled (sizes_of n) finds.hands f i g) → s ≡ x.vcpu
        mine x = one_vcpu n finds.words finds.hands finds.sound.alone f s x.vcpu finds.real x.real facts.some (first-some (λ (y : Work). y.frame) f x.work (finds.hands x.vcpu).works x.here)

        by_way : IsTrue (is_live (kind_at finds.words g)) ⊎ (IsTrue (is_partial (kind_at finds.words g) || is_work (kind_at finds.words g)) × (IsLastOfPartial finds.words f i ⊎ IsUnsettled (sizes_of n) finds.hands f i g)) →
            IsTrue (is_live (kind_at finds.words g))
            ⊎ (IsTrue (is_partial (kind_at finds.words g) || is_work (kind_at finds.words g)) × ((u : Unsettled) × (e.unsettled ≡ Some u) × (some_since (sizes_of n) u.since (Kind g) is_live_word h.steps ≡ false)))
        by_way (inl live) = inl live
        by_way (inr (form, inl partial)) = absurd (busy_partial (kind_at finds.words f) facts.busy partial.partial)
        by_way (inr (form, inr x)) =
            inr (
              form,
              (
                x.unsettled,
                same_unsettled e x.work x.unsettled (sym x.here ∙ subst (λ v. work_on f (finds.hands v).works ≡ Some e) (mine x) mine_here) x.kept,
                subst (λ (k : Holdings). some_since (sizes_of n) x.unsettled.since (Kind g) is_live_word k.steps ≡ false) finds.mine
                    (subst (λ v. some_since (sizes_of n) x.unsettled.since (Kind g) is_live_word (finds.hands v).steps ≡ false) (sym (mine x)) x.unfound),
              ),
            )

    -- its one type count is the entry's
    pub finds_unkept : IsTrue (is_partial (kind_at finds.words g)) → (kind_at finds.words g).kept ≡ false
    unfolding marks
    finds_unkept partial =
        let some = entered in
        let all = finds.sound.counts.types g in
        let one = partial_count (kind_at finds.words g) partial in
        no_bit (kind_at finds.words g).kept (omega (arith, some, all, one))

    -- above level 1 it has the table's owner
    pub finds_owned : (d : ℕ) → owner_of (finds.words (Refs f)) ≡ Some d → is_lowest t ≡ false → owner_of (finds.words (Refs g)) ≡ Some d
    finds_owned d is above =
        owned_above finds.words (kind_at finds.words f).kind (owner_of (finds.words (Refs f))) g d is (ap is_lowest (table_kind ∙ kind) ∙ above) (finds.sound.permitted.typed f i g want is_held asks)

-- ---- a hand in which it was loaded last
pub record SeenLast (f i : ℕ) (t : PageType) (word : ℕ) (h : Holdings) : Type 0 where
  pub work : Work
  pub here : work_on f h.works ≡ Some work
  pub kind : (kind_fields work.word).kind ≡ t
  pub table : IsTrue (is_table t)
  pub unmarked : (kind_fields work.word).unflushed ≡ false
  pub last : work.recorded ≡ i + 1
  pub seen : work.seen ≡ Some (record { index = i; word = word })
  pub loaded : (u : Unsettled) → work.unsettled ≡ Some u → u.word ≡ Some word

-- it may be shed
abbrev pub seen_sheds : (f i : ℕ) (t : PageType) (word : ℕ) (h : Holdings) → SeenLast f i t word h → ShedsLast f i h
seen_sheds f i t word h l = record { work = l.work; may = record { here = l.here; table = subst (λ k. IsTrue (is_table k)) (sym l.kind) l.table; last = l.last; word = word; seen = l.seen } }

-- the last recorded entry, once it was looked at
pub last_loaded : (i n w : ℕ) (o : Option Unsettled) → i + 1 ≡ n → (u : Unsettled) → learned_last i n w o ≡ Some u → u.word ≡ Some w
last_loaded i n w None is u at = absurd cc
last_loaded i n w (Some q) is u at =
    let same : Some (record q { word = Some w }) ≡ Some u = sym (ap (λ b. if b then Some (record q { word = Some w }) else Some q) (when_eq (i + 1) n is)) ∙ at in
    let whole : record q { word = Some w } ≡ u = cc in
    sym (ap (λ (y : Unsettled). y.word) whole)

abbrev pub learned_seen : (f i : ℕ) (t : PageType) (word : ℕ) (e : Work) (h : Holdings) → work_on f h.works ≡ Some (learned_work i word e) → (kind_fields e.word).kind ≡ t → IsTrue (is_table t) →
    (kind_fields e.word).unflushed ≡ false → e.recorded ≡ i + 1 → SeenLast f i t word h
learned_seen f i t word e h here kind table unmarked recorded =
    let learns = unmarked_learns i word e unmarked in
    record {
      work = learned_work i word e;
      here = here;
      kind = ap (λ w. (kind_fields w).kind) (learned_word i word e) ∙ kind;
      table = table;
      unmarked = ap (λ w. (kind_fields w).unflushed) (learned_word i word e) ∙ unmarked;
      last = ap (λ (y : Work). y.recorded) learns ∙ recorded;
      seen = ap (λ (y : Work). y.seen) learns;
      loaded = λ u at. last_loaded i e.recorded word e.unsettled (sym recorded) u (sym (ap (λ (y : Work). y.unsettled) learns) ∙ at);
    }

-- the entry still asks what was loaded
pub seen_asks : {n : Machine} {s : ℕ} {h : Holdings} {p : Place} {x : ℕ} {f i : ℕ} {t : PageType} {word : ℕ} → (finds : Finds n s h p x) → SeenLast f i t word h → entry_demand finds.words f i ≡ demand_at t i word
seen_asks {n} {s} {h} {p} {x} {f} {i} {t} {word} finds l =
    let mine : work_on f (finds.hands s).works ≡ Some l.work = ap (λ (u : Holdings). work_on f u.works) finds.mine ∙ l.here in
    let facts = works_facts n finds.words finds.hands s f l.work finds.sound finds.real mine in
    sym (loaded_asks n finds.words finds.hands s f l.work facts i word (ap is_table l.kind ∙ l.table) l.seen) ∙ ap (λ k. demand_at k i word) l.kind
