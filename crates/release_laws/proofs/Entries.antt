-- An entry that is released, by its steps and the words that they leave; and the plain release of what it asks.
use Rattle.std.proofs.Common.{◌≡◌, ◌⊎◌, ℕ, zero, suc, ◌<◌, ◌≤◌, ◌==◌, ◌&&◌, not, nat_lt, if◌then◌else◌, Bool, true, false, List, Some, None, Result, Ok, Err, IsTrue, refl, sym, ap, ◌∙◌, subst, inl, inr, arith}
use Rattle.std.proofs.lemmas.Bool.Decides.{nat_tests}
use Rattle.xp_words.specs.Entries.{demand_at}
use Rattle.xp_words.specs.KindWords.{has_form, is_kind, kind_fields, kind_write}
use Rattle.xp_words.specs.Machine.{Machine}
use Rattle.xp_words.specs.PageTypes.{is_table}
use Rattle.xp_words.specs.declared.entry.Demand.{Demand}
use Rattle.xp_words.specs.declared.entry.Demand.TheVariants as demands
use Rattle.xp_words.specs.declared.kind.KindWord.{KindWord}
use Rattle.xp_words.specs.declared.kind.PageType.{PageType}
use Rattle.xp_words.specs.declared.place.Place.{Place}
use Rattle.xp_words.specs.declared.place.Place.TheVariants.{Cell, Clock, Kind, Refs}
use Rattle.xp_words.specs.declared.reply.Stop.{Stop}
use Rattle.xp_board.specs.KindSteps.{Form, Dead, InWork, Live, Partial, form_of, resumed_kind}
use Rattle.xp_board.specs.Readings.{is_partial}
use Rattle.xp_board.specs.Told.{PortValue, is_telling, told_word}
use Rattle.xp_board.specs.declared.step.Act.TheVariants.{Cas, Load}
use Rattle.xp_board.specs.declared.step.Mark.TheVariants.{Shed}
use Rattle.step_maker.specs.Plain.{Words, Leaves}
use Rattle.step_maker.specs.Moves.{Moves}
use Rattle.step_maker.proofs.Telling.{load_tells, moves_telling, told_there}
use Rattle.step_maker.specs.Visits.{Visit, Does, Only, Then}
use Rattle.step_maker.proofs.Visiting.{does_as}
use Rattle.step_maker.proofs.Parts.{parts as does_parts}
use Rattle.frame_words.specs.Freeing.{PutBy}
use Rattle.frame_words.specs.Plain.{put}
use Rattle.frame_types.specs.Found.{DropsBy, StoresKind, saw_kind, swaps_kind}
use Rattle.kind_words.specs.Kinds.{dead_kind}
use Rattle.partial_state.specs.Levels.{level_type}
use Rattle.partial_state.proofs.LevelFacts.{level_type-table}
use Rattle.table_words.specs.Entries.{ShedsAt, sheds_at}
use Rattle.table_releases.specs.Found.{ComesBy, DiesShed, FormBy, LiveBy, LowersTable, PartialBy, ReleasesBy, ReleasesFound, TypedReleased, has_recorded}
use Rattle.table_releases.specs.Plain.{FormPlainly, LivePlainly, LowersPlainly, PartialPlainly, ReleasesPlainly, TwinRelease}
use Rattle.table_entries.specs.Found.{saw_cell}
use Rattle.table_law.specs.Levels.{entry_of}
use Rattle.table_law.proofs.Counting.{asks_at}
use Rattle.table_releases.specs.declared.entries.Released.{Released}
use Rattle.table_releases.specs.declared.entries.Released.TheVariants.{Given, Opened}
use Rattle.table_law.specs.Plain.{Describes, Plain, sober, with_kind}
use Rattle.table_law.specs.Release.{drop_demand, emptying, entries_held, is_counted_on, let_go, keeps_mark}
use Rattle.release_laws.proofs.Dropping.{again_given, again_held, again_in_work, again_last, live_all, live_closing, live_last, more_given, plain_given, again_mark, live_unmarked}
use Rattle.xp_board.proofs.KindReadings.{partial_parts}
use Rattle.release_laws.proofs.Liking.{IsSpent}
use Rattle.release_laws.proofs.Parts.{does_only, does_with}
use Rattle.kind_words.proofs.KindFacts.{kind_found}
use Rattle.xp_board.specs.declared.step.StepKind.{StepKind}
use Rattle.table_twins.proofs.Entering.{described_leaves}
use Rattle.xp_board.proofs.KindForms.{frame_inside}
use Rattle.xp_board.proofs.FormsLeft.{is_live_left as live_form, form_partial as partial_form}
use Rattle.release_laws.proofs.Seen.{IsCounted, IsLowered, drops_seen, kinded_counted, looked_counted, looked_lowered, lowers_seen, put_seen, stores_counted}
use Rattle.release_laws.proofs.Words.{live_there, put_words}

-- ---- what the release of an entry comes to that asks this
-- a table is released first, of which so many entries are recorded
pub record OpensAs (n : Machine) (l : ℕ) (p : Plain) (w : PortValue) (d : Demand) (g k : ℕ) : Type 0 where
  pub asks : d ≡ demands.Typed g (level_type l)
  pub table : 1 ≤ l
  pub last : is_counted_on (p.kinds g) ≡ false
  pub bare : keeps_mark (p.kinds g) ≡ false
  pub held : entries_held (p.kinds g) ≡ k
  pub few : k ≤ 512
  pub unspent : IsSpent (p.kinds g) → ⊥
  pub inside : g < n.frames
  pub describes : Describes n (told_word w) (with_kind g (emptying (p.kinds g)) p)

abbrev pub Comes : Machine → ℕ → Plain → PortValue → Demand → Result Released Stop → Type 0
Comes n l p w d (Ok Given) = Describes n (told_word w) (drop_demand (let_go l) p d)
Comes n l p w d (Ok (Opened g k closing)) = OpensAs n l p w d g k
Comes n l p w d (Err e) = Unit {0}

-- such a frame is not being released yet: it has type counts, or is partial
live_unspent : (k j : KindWord) → k ≡ j → j.validated ≡ true → 0 < j.number → IsSpent k → ⊥
live_unspent k j is live some s =
    let on : (j.validated && nat_lt 0 j.number) ≡ false = subst (λ (y : KindWord). (y.validated && nat_lt 0 y.number) ≡ false) is s.none in
    let off : nat_lt 0 j.number ≡ false = sym (ap (λ b. b && nat_lt 0 j.number) live) ∙ on in
    let up : nat_lt 0 j.number ≡ true = grind (arith, nat_tests) in
    cc

partial_unspent : (k j : KindWord) → k ≡ sober j → IsTrue (is_partial j) → IsSpent k → ⊥
partial_unspent k j is partial s =
    let p = partial_parts j partial in
    let e : is_partial k ≡ true = ap is_partial is ∙ rw (p.0, p.1) refl in
    let off = s.whole in
    cc

-- ---- levels and forms
pub table_level : (l : ℕ) → is_table (level_type l) ≡ true → 1 ≤ l
table_level zero is = absurd (cc)
table_level (suc l) is = omega arith

pub plain_level : (l : ℕ) → is_table (level_type l) ≡ false → l ≡ 0
plain_level zero is = refl
plain_level (suc l) is = absurd (let t = level_type-table (suc l) (omega arith) in cc)

form_by : (a b c : Bool) (f : Form) → (if a then Live else if b then Partial else if c then InWork else Dead) ≡ f → (f ≡ Live → a ≡ true) × (f ≡ Partial → IsTrue (not a && b))
form_by true b c f is = (λ e. refl, λ e. absurd (let k = is ∙ e in cc))
form_by false true c f is = (λ e. absurd (let k = is ∙ e in cc), λ e. refl)
form_by false false true f is = (λ e. absurd (let k = is ∙ e in cc), λ e. absurd (let k = is ∙ e in cc))
form_by false false false f is = (λ e. absurd (let k = is ∙ e in cc), λ e. absurd (let k = is ∙ e in cc))

few_recorded : (k : KindWord) → IsTrue (is_kind k) → IsTrue (is_partial k) → k.progress ≤ 512
unfolding has_form
few_recorded k is partial = grind (arith, nat_tests)

-- of a frame that awaits its flush none is recorded
recorded_unmarked : (t : PageType) (k : KindWord) → IsTrue (is_kind k) → IsTrue (is_partial k) → has_recorded t k ≡ true → k.unflushed ≡ false
unfolding has_form
recorded_unmarked t k is partial some = grind (arith, nat_tests)

pub none_recorded : (t : PageType) (k : KindWord) → is_table t ≡ true → has_recorded t k ≡ false → k.progress ≡ 0
none_recorded t k table none = grind (arith, nat_tests)

-- ---- behind a look that sheds the entry
module _ (z w : PortValue) (q : Place) (f i g : ℕ) (Q : List Visit → Type 0) (telling : is_telling z ≡ true) (a : Does z w (Then (ShedsAt q f i) Q)) where
  shed_parts : (u : PortValue) × Does z u (ShedsAt q f i) × Does u w Q
  shed_parts = does_parts z w (ShedsAt q f i) Q a

  shed_to : PortValue
  shed_to = shed_parts.0

  shed_goes : Does shed_to w Q
  unfolding shed_to
  shed_goes = shed_parts.2

  shed_look : (x : ℕ) × ((kind : _) × Moves z shed_to q Load kind (Some (Shed f i)) x)
  unfolding shed_to
  shed_look = let x = does_with z shed_parts.0 _ shed_parts.1 in (x.0, does_only z shed_parts.0 (sheds_at q f i x.0) x.1)

  shed_telling : is_telling shed_to ≡ true
  shed_telling = moves_telling z shed_to q Load shed_look.1.0 (Some (Shed f i)) shed_look.0 shed_look.1.1 ∙ telling

  shed_words : (r : Place) → told_word shed_to r ≡ told_word z r
  shed_words r = load_tells z shed_to q shed_look.1.0 (Some (Shed f i)) shed_look.0 shed_look.1.1 telling r

  shed_counted : IsCounted shed_to g → IsCounted z g
  shed_counted c = looked_counted z shed_to q shed_look.1.0 (Some (Shed f i)) shed_look.0 g telling shed_look.1.1 (λ on. c)

  shed_lowered : IsLowered shed_to g → IsLowered z g
  shed_lowered c = looked_lowered z shed_to q shed_look.1.0 (Some (Shed f i)) shed_look.0 g telling shed_look.1.1 (λ on. c)

-- ---- a type is given back, by the kind word that was found
module _ (z w : PortValue) (p : Plain) (f i l g : ℕ) (answer : Result Released Stop) (telling : is_telling z ≡ true) (d : Describes z.post.machine (told_word z) p) (inside : g < z.post.machine.frames) where
  abbrev word : ℕ
  word = told_word z (Kind g)

  abbrev Says : Type 0
  Says = Comes z.post.machine l p w (demands.Typed g (level_type l)) answer

  given : answer ≡ Ok Given → Describes z.post.machine (told_word w) (let_go l g p) → Says
  given is e = subst (Comes z.post.machine l p w (demands.Typed g (level_type l))) (sym is) e

  -- ---- live
  module _ (live : (kind_fields word).validated ≡ true) where
    -- a table
    lowers_by : (b : Bool) → ((kind_fields word).number == 1) ≡ b → is_table (level_type l) ≡ true → IsLowered z g → (b ≡ false → IsCounted z g) → LowersPlainly w (told_word z) g answer b → Says
    lowers_by true one table low counts a =
        subst (Comes z.post.machine l p w (demands.Typed g (level_type l))) (sym a.0)
        (record {
          asks = refl;
          table = table_level l table;
          last = live_last z.post.machine (told_word z) p l g d inside live low.small low.some one;
          bare = live_unmarked z.post.machine (told_word z) p l g d inside live low.small low.some;
          held = live_all z.post.machine (told_word z) p l g d inside live low.small low.some one;
          unspent = λ s. live_unspent (p.kinds g) (kind_fields (told_word z (Kind g))) (live_there z.post.machine (told_word z) p g d inside live) live low.some s;
          few = omega arith;
          inside = inside;
          describes = described_leaves z.post.machine w _ _ a.1 (live_closing z.post.machine (told_word z) p l g d inside live low.small low.some one);
        })
    lowers_by false more table low counts a =
        given a.0 (described_leaves z.post.machine w _ _ a.1 (more_given z.post.machine (told_word z) p l g d inside live low.small low.some more (counts refl).some))

    -- by its steps
    seen_lowered : Does z w (λ vs. Then (ShedsAt (Refs g) f i) (λ ls. LiveBy g (level_type l) answer true ls) vs) → IsLowered z g × (((kind_fields word).number == 1) ≡ false → IsCounted z g)
    seen_lowered a =
        let u = shed_to z w (Refs g) f i g _ telling a in
        let on = shed_telling z w (Refs g) f i g _ telling a in
        let x = does_with u w _ (shed_goes z w (Refs g) f i g _ telling a) in
        let s = lowers_seen u w g x.0 (λ ls. LowersTable g answer ((kind_fields x.0).number == 1) ls) on x.1 in
        let same : x.0 ≡ word = sym s.1.1 ∙ shed_words z w (Refs g) f i g _ telling a (Kind g) in (
          shed_lowered z w (Refs g) f i g _ telling a s.0,
          λ more.
              shed_counted z w (Refs g) f i g _ telling a
              (s.1.3 (λ still. put_seen s.1.0 w g still
              (does_as s.1.0 w (λ ls. LowersTable g answer false ls) (PutBy g) (λ vs c. c.1) (subst (λ b. Does s.1.0 w (λ ls. LowersTable g answer b ls)) (ap (λ y. (kind_fields y).number == 1) same ∙ more) s.1.2)))),
        )

    live_by : (b : Bool) → is_table (level_type l) ≡ b → Does z w (λ vs. Then (ShedsAt (Refs g) f i) (λ ls. LiveBy g (level_type l) answer b ls) vs) → LivePlainly w (told_word z) g (level_type l) answer b → Says
    live_by true table a plain = let s = seen_lowered a in lowers_by ((kind_fields word).number == 1) refl table s.0 s.1 plain
    live_by false off a plain =
        let u = shed_to z w (Refs g) f i g _ telling a in
        let s = drops_seen u w g (level_type l) (shed_telling z w (Refs g) f i g _ telling a)
        (does_as u w (λ ls. LiveBy g (level_type l) answer false ls) (DropsBy g (level_type l)) (λ vs c. c.1) (shed_goes z w (Refs g) f i g _ telling a)) in
        let low = shed_lowered z w (Refs g) f i g _ telling a s.0 in
        let refs = shed_counted z w (Refs g) f i g _ telling a s.1 in
        given plain.0 (described_leaves z.post.machine w _ _ plain.1 (plain_given z.post.machine (told_word z) p l g d inside live low.small low.some (plain_level l off) refs.some))

  -- ---- partial
  module _ (is : IsTrue (is_kind (kind_fields word))) (partial : IsTrue (is_partial (kind_fields word))) where
    none_held : has_recorded (level_type l) (kind_fields word) ≡ false → (b : Bool) → is_table (level_type l) ≡ b → (l ≡ 0) ⊎ ((kind_fields word).progress ≡ 0)
    none_held none true table = inr (none_recorded (level_type l) (kind_fields word) table none)
    none_held none false off = inl (plain_level l off)

    table_of : has_recorded (level_type l) (kind_fields word) ≡ true → is_table (level_type l) ≡ true
    table_of some = grind arith

    -- the steps of one that is left dead
    seen_dead : Does z w (λ vs. Then (Only (swaps_kind g word (resumed_kind (kind_fields word)) word)) (λ cs. ComesBy f i g (level_type l) word answer false cs) vs) → IsCounted z g
    seen_dead a =
        let k = resumed_kind (kind_fields word) in
        let parts = does_parts z w (Only (swaps_kind g word k word)) (λ cs. ComesBy f i g (level_type l) word answer false cs) a in
        let m = does_only z parts.0 (swaps_kind g word k word) parts.1 in
        kinded_counted z parts.0 (Cas word (kind_write k)) m.0 None word g telling m.1 (λ on. dead_after parts.0 on (does_as parts.0 w _ (DiesShed f i g (level_type l) (kind_fields word).unflushed) (λ vs c. c.1) parts.2))
      where
        dead_after : (u : PortValue) → is_telling u ≡ true → Does u w (DiesShed f i g (level_type l) (kind_fields word).unflushed) → IsCounted u g
        dead_after u on b =
            let c = does_with u w _ b in
            let parts = does_parts u w (Only (sheds_at Clock f i c.0)) _ c.1 in
            let look = does_only u parts.0 (sheds_at Clock f i c.0) parts.1 in
            looked_counted u parts.0 Clock look.0 (Some (Shed f i)) c.0 g on look.1
            (λ still. let more = does_parts parts.0 w (StoresKind g (dead_kind (level_type l) (kind_fields word).unflushed c.0)) (PutBy g) parts.2 in
            stores_counted parts.0 more.0 g (dead_kind (level_type l) (kind_fields word).unflushed c.0) still more.1 (λ yet. put_seen more.0 w g yet more.2))

    partial_by : (b : Bool) → has_recorded (level_type l) (kind_fields word) ≡ b → (answer ≡ Ok Given → b ≡ false → IsCounted z g) → PartialPlainly w (told_word z) g (level_type l) answer b → Says
    partial_by true some counts a =
        subst (Comes z.post.machine l p w (demands.Typed g (level_type l))) (sym a.0)
        (record {
          asks = refl;
          table = table_level l (table_of some);
          last = again_last z.post.machine (told_word z) p l g d inside is partial;
          bare = again_mark z.post.machine (told_word z) p l g d inside is partial ∙ recorded_unmarked (level_type l) (kind_fields word) is partial some;
          held = again_held z.post.machine (told_word z) p l g d inside is partial;
          unspent = λ s. partial_unspent (p.kinds g) (kind_fields (told_word z (Kind g))) (d.kinds g inside) partial s;
          few = few_recorded (kind_fields word) is partial;
          inside = inside;
          describes = described_leaves z.post.machine w _ _ a.2 (again_in_work z.post.machine (told_word z) p l g d inside is partial);
        })
    partial_by false none counts a =
        given a.0
        (described_leaves z.post.machine w _ _ a.1 (again_given z.post.machine (told_word z) p l g d inside is partial (none_held none (is_table (level_type l)) refl) (counts a.0 refl).some))

-- ---- an entry that asks a type, behind the look at its cell
module _ (v w : PortValue) (p : Plain) (f i l g : ℕ) (answer : Result Released Stop) (telling : is_telling v ≡ true) (d : Describes v.post.machine (told_word v) p) where
  -- and behind the look at its kind word
  module _ (z : PortValue) (how : StepKind) (x : ℕ) (look : Moves v z (Kind g) Load how None x) where
    same_words : told_word z ≡ told_word v
    same_words = λ j q. load_tells v z (Kind g) how None x look telling q j

    same_machine : z.post.machine ≡ v.post.machine
    same_machine = ap (λ (y : PortValue). y.post.machine) look.to

    still_telling : is_telling z ≡ true
    still_telling = moves_telling v z (Kind g) Load how None x look ∙ telling

    described : Describes z.post.machine (told_word z) p
    described = subst (λ n. Describes n (told_word z) p) (sym same_machine) (subst (λ m. Describes v.post.machine m p) (sym same_words) d)

    in_range : g < z.post.machine.frames
    in_range = subst (λ (n : Machine). g < n.frames) (sym same_machine) (frame_inside v.post.machine g look.may.place)

    -- the word that was found
    found : x ≡ told_word z (Kind g)
    found = sym (told_there v z (Kind g) Load how None x look telling) ∙ ap (λ (m : Words). m (Kind g)) (sym same_words)

    spelled : IsTrue (is_kind (kind_fields (told_word z (Kind g))))
    spelled =
        let k = kind_found v.post.machine v.post.vcpu v.holdings g x (frame_inside v.post.machine g look.may.place) look.finds in
        subst (λ y. IsTrue (is_kind (kind_fields y))) found (subst (λ y. IsTrue (is_kind y)) (sym k.fields) k.is)

    partial_steps : IsTrue (is_partial (kind_fields (told_word z (Kind g)))) → answer ≡ Ok Given → has_recorded (level_type l) (kind_fields (told_word z (Kind g))) ≡ false →
        Does z w (λ vs. PartialBy z.post.machine f i g (level_type l) (told_word z (Kind g)) answer vs) → IsCounted z g
    partial_steps partial is none a =
        let y = told_word z (Kind g) in
        let k = resumed_kind (kind_fields y) in
        let b = subst (λ r. Does z w (λ vs. PartialBy z.post.machine f i g (level_type l) y r vs)) is a in
        seen_dead z w p f i l g (Ok Given) still_telling described in_range spelled partial
        (subst (λ c. Does z w (λ vs. Then (Only (swaps_kind g y k y)) (λ cs. ComesBy f i g (level_type l) y (Ok Given) c cs) vs)) none b)

    by_form : (form : Form) → form_of (kind_fields (told_word z (Kind g))) ≡ form → Does z w (λ vs. FormBy z.post.machine f i g (level_type l) (told_word z (Kind g)) answer form vs) →
        FormPlainly w (told_word z) g (level_type l) answer form → Comes z.post.machine l p w (demands.Typed g (level_type l)) answer
    by_form Live is a plain = live_by z w p f i l g answer still_telling described in_range (live_form (kind_fields (told_word z (Kind g))) is) (is_table (level_type l)) refl a plain
    by_form Partial is a plain =
        partial_by z w p f i l g answer still_telling described in_range spelled (partial_form (kind_fields (told_word z (Kind g))) is) (has_recorded (level_type l) (kind_fields (told_word z (Kind g)))) refl
        (λ e none. partial_steps (partial_form (kind_fields (told_word z (Kind g))) is) e none a) plain
    by_form InWork is a plain = subst (Comes z.post.machine l p w (demands.Typed g (level_type l))) (sym plain.0) tt
    by_form Dead is a plain = subst (Comes z.post.machine l p w (demands.Typed g (level_type l))) (sym plain.0) tt

  -- behind the look at its cell
  read : answer ≡ Ok Given → Does v w (λ vs. Then (ShedsAt Clock f i) (PutBy g) vs) → Leaves w (put g (told_word v)) → Comes v.post.machine l p w (demands.Read g) answer
  read is a leaves =
      let c = shed_counted v w Clock f i g (PutBy g) telling a (put_seen (shed_to v w Clock f i g (PutBy g) telling a) w g (shed_telling v w Clock f i g (PutBy g) telling a) (shed_goes v w Clock f i g (PutBy g) telling a)) in
      subst (Comes v.post.machine l p w (demands.Read g)) (sym is) (described_leaves v.post.machine w _ _ leaves (put_words v.post.machine (told_word v) p g d c.inside c.some))

  typed : Does v w (λ vs. TypedReleased v.post.machine f i g (level_type l) answer vs) → FormPlainly w (told_word v) g (level_type l) answer (form_of (kind_fields (told_word v (Kind g)))) →
      Comes v.post.machine l p w (demands.Typed g (level_type l)) answer
  typed a plain =
      let x = does_with v w _ a in
      let parts = does_parts v w (Only (saw_kind g x.0)) (λ ks. FormBy v.post.machine f i g (level_type l) x.0 answer (form_of (kind_fields x.0)) ks) x.1 in
      let z = parts.0 in
      let m = does_only v z (saw_kind g x.0) parts.1 in
      let at : x.0 ≡ told_word z (Kind g) = found z m.0 x.0 m.1 in
      let same : told_word z ≡ told_word v = same_words z m.0 x.0 m.1 in
      let machine = same_machine z m.0 x.0 m.1 in
      subst (λ n. Comes n l p w (demands.Typed g (level_type l)) answer) machine
      (by_form z m.0 x.0 m.1 (form_of (kind_fields (told_word z (Kind g)))) refl
      (subst (λ n. Does z w (λ ks. FormBy n f i g (level_type l) (told_word z (Kind g)) answer (form_of (kind_fields (told_word z (Kind g)))) ks)) (sym machine)
      (subst (λ y. Does z w (λ ks. FormBy v.post.machine f i g (level_type l) y answer (form_of (kind_fields y)) ks)) at parts.2))
      (subst (λ (l2 : Words). FormPlainly w l2 g (level_type l) answer (form_of (kind_fields (l2 (Kind g))))) (sym same) plain))

-- ---- the whole
module _ (v w : PortValue) (p : Plain) (f i l : ℕ) (answer : Result Released Stop) (telling : is_telling v ≡ true) (d : Describes v.post.machine (told_word v) p) where
  by_demand : (a : Demand) → ((g : ℕ) (t : PageType) → a ≡ demands.Typed g t → t ≡ level_type l) → Does v w (λ vs. ReleasesBy v.post.machine f i answer a vs) → ReleasesPlainly w (told_word v) answer a →
      Comes v.post.machine l p w a answer
  by_demand demands.Nothing asks steps plain = subst (Comes v.post.machine l p w demands.Nothing) (sym plain.0) (described_leaves v.post.machine w _ _ plain.1 d)
  by_demand demands.Bad asks steps plain = subst (Comes v.post.machine l p w demands.Bad) (sym plain.0) (described_leaves v.post.machine w _ _ plain.1 d)
  by_demand (demands.Read g) asks steps plain =
      read v w p f i l g answer telling d plain.0 (does_as v w (λ vs. ReleasesBy v.post.machine f i answer (demands.Read g) vs) (λ vs. Then (ShedsAt Clock f i) (PutBy g) vs) (λ vs c. c.1) steps) plain.1
  by_demand (demands.Typed g t) asks steps plain =
      subst (λ u. Comes v.post.machine l p w (demands.Typed g u) answer) (sym (asks g t refl))
      (typed v w p f i l g answer telling d
      (subst (λ u. Does v w (λ vs. TypedReleased v.post.machine f i g u answer vs)) (asks g t refl) steps)
      (subst (λ u. FormPlainly w (told_word v) g u answer (form_of (kind_fields (told_word v (Kind g))))) (asks g t refl) plain))

-- an entry of a table of level l + 1
pub entry_comes : (v w : PortValue) (p : Plain) (f i l : ℕ) (answer : Result Released Stop) → is_telling v ≡ true → Describes v.post.machine (told_word v) p → f < v.post.machine.frames → i < 512 → l ≤ 3 →
    ReleasesFound v w f i (level_type (suc l)) answer → TwinRelease v w f (level_type (suc l)) i answer → Comes v.post.machine l p w (entry_of p (level_type (suc l)) f i) answer
entry_comes v w p f i l answer telling d inside few low steps twin =
    let n = v.post.machine in
    let t = level_type (suc l) in
    let x = does_with v w _ steps in
    let parts = does_parts v w (Only (saw_cell f i x.0)) (λ rs. ReleasesBy n f i answer (demand_at t i x.0) rs) x.1 in
    let u = parts.0 in
    let m = does_only v u (saw_cell f i x.0) parts.1 in
    let same : told_word u ≡ told_word v = λ j q. load_tells v u (Cell f i) m.0 None x.0 m.1 telling q j in
    let machine = ap (λ (y : PortValue). y.post.machine) m.1.to in
    let at : told_word v (Cell f i) ≡ x.0 = told_there v u (Cell f i) Load m.0 None x.0 m.1 telling in
    subst (λ y. Comes n l p w (demand_at t i y) answer) (sym (d.cells f i inside few ∙ at))
    (subst (λ k. Comes k l p w (demand_at t i x.0) answer) machine
    (by_demand u w p f i l answer (moves_telling v u (Cell f i) Load m.0 None x.0 m.1 ∙ telling)
    (subst (λ k. Describes k (told_word u) p) (sym machine) (subst (λ r. Describes n r p) (sym same) d))
    (demand_at t i x.0) (λ g ty is. asks_at l i x.0 g ty low is)
    (subst (λ k. Does u w (λ rs. ReleasesBy k f i answer (demand_at t i x.0) rs)) (sym machine) parts.2)
    (subst (λ (r : Words). ReleasesPlainly w r answer (demand_at t i x.0)) (sym same) (subst (λ y. ReleasesPlainly w (told_word v) answer (demand_at t i y)) at (twin telling)))))
