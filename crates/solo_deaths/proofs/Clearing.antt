-- One frame of a domain that is destroyed loses its marks, as the plain one.
use Rattle.std.proofs.Common.{◌≡◌, ◌≢◌, ℕ, ◌<◌, ◌≤◌, if◌then◌else◌, Bool, true, List, Some, None, Result, Ok, Err, IsTrue, refl, sym, ap, ◌∙◌, subst, inl, inr, arith}
use Rattle.std.proofs.lemmas.Bool.{cases_Bool}
use Rattle.xp_words.specs.KindWords.{is_kind, kind_fields, kind_write}
use Rattle.xp_words.specs.Machine.{IsMachine}
use Rattle.xp_words.specs.PageTypes.{type_number}
use Rattle.xp_words.specs.declared.kind.KindWord.{KindWord}
use Rattle.xp_words.specs.declared.place.Place.TheVariants.{Kind, Refs}
use Rattle.xp_words.specs.declared.reply.Pause.TheVariants.{Due}
use Rattle.xp_words.specs.declared.reply.Stop.{Stop}
use Rattle.xp_words.specs.declared.reply.Stop.TheVariants.{Paused}
use Rattle.xp_board.specs.Readings.{owner_of, ref_count}
use Rattle.xp_board.specs.Told.{Post, PortValue, told_word}
use Rattle.xp_board.specs.declared.step.Act.TheVariants.{Cas, Load}
use Rattle.xp_board.specs.declared.step.StepKind.TheVariants as kinds
use Rattle.xp_board.proofs.PlaceTests.{equal_refl}
use Rattle.step_maker.specs.Moves.{Moves}
use Rattle.step_maker.proofs.Coming.{moves_came}
use Rattle.step_maker.proofs.Telling.{load_tells, told_there}
use Rattle.course_laws.proofs.Awaiting.{AloneStays, NeitherLostNorBusy}
use Rattle.frame_types.specs.Plain.{set_kind}
use Rattle.kind_words.proofs.KindWriting.{fields_write}
use Rattle.partial_state.specs.Levels.{level_type}
use Rattle.table_words.specs.Pins.{unpinned_kind}
use Rattle.table_words.proofs.PinWords.{unpinned_is}
use Rattle.table_law.specs.Plain.{Plain, at, share_of, sober, with_kind}
use Rattle.table_law.specs.Release.{let_go}
use Rattle.table_twins.proofs.Kinding.{kinded}
use Rattle.table_twins.proofs.Typing.{live_sober}
use Rattle.domain_destroy.specs.Emptying.{LetsGo}
use Rattle.domain_destroy.specs.Clearing as clearing
use Rattle.domain_destroy.specs.Clearing.{ClearsFrame, GivesMark, TakesMarks}
use Rattle.script_law.specs.Destroying.{stripped, unallocated, unpinned}
use Rattle.script_law.specs.Memory.{is_owned_by}
use Rattle.solo_ports.proofs.Unkept.{unkept_kind}
use Rattle.solo_ports.proofs.Pinned.{IsPinnedTable, pinned_table, sober_kept, sober_pinned, table_level}
use Rattle.solo_deaths.specs.Between.{Between, PartComes, Within}
use Rattle.solo_deaths.proofs.Giving.{exchanged, gives_mark, stored}
use Rattle.solo_deaths.proofs.Given.{PausedReleaseLeaves, ReleaseLeaves}
use Rattle.solo_deaths.proofs.Releasing.{lets_go}
use Rattle.solo_deaths.proofs.Standing.{between_by, between_looks, orderly, telling}
use Rattle.solo_deaths.proofs.Stripping.{not_owned, owned_or_uncounted, stripped_other, stripped_parts, stripped_unpinned, unpinned_none, unpinned_off}

-- ---- the pin
module _ (stays : AloneStays) (neither : NeitherLostNorBusy) (leaves_plain : ReleaseLeaves) (leaves_rest : PausedReleaseLeaves) (o : Post) (machine : IsMachine o.machine) (f : ℕ) (inside : f < o.machine.frames) where
  module _ (u : PortValue) (p : Plain) (b : Between o u p) (x : ℕ) (is : told_word u (Kind f) ≡ x) where
    kind_is : p.kinds f ≡ sober (kind_fields x)
    kind_is = b.frames.kinds f inside ∙ ap (λ y. sober (kind_fields y)) is

    pub pinned_is : (p.kinds f).pinned ≡ (kind_fields x).pinned
    pinned_is = ap (λ (k : KindWord). k.pinned) kind_is ∙ sober_pinned (kind_fields x)

    kept_off : (kind_fields x).kept ≡ true → ⊥
    kept_off on = let e : (p.kinds f).kept ≡ true = ap (λ (k : KindWord). k.kept) kind_is ∙ sober_kept (kind_fields x) ∙ on in let k = b.unkept f inside in absurd cc

    spelled : IsTrue (is_kind (kind_fields x))
    spelled = subst (λ z. IsTrue (is_kind (kind_fields z))) is ((orderly stays o u p b).spelled f inside)

    abbrev off : Plain
    off = with_kind f (unpinned_kind (p.kinds f)) p

    abbrev word : ℕ
    word = kind_write (unpinned_kind (kind_fields x))

    module _ (on : (kind_fields x).pinned ≡ true) where
      table : IsPinnedTable (kind_fields x)
      table = pinned_table (kind_fields x) spelled on

      whole : p.kinds f ≡ kind_fields x
      whole = kind_is ∙ live_sober (kind_fields x) table.live

      levels : (level_type (type_number (p.kinds f).kind) ≡ (kind_fields x).kind) × (1 ≤ type_number (p.kinds f).kind) × (type_number (p.kinds f).kind ≤ 4)
      levels =
          subst (λ (k : KindWord). (level_type (type_number k.kind) ≡ (kind_fields x).kind) × (1 ≤ type_number k.kind) × (type_number k.kind ≤ 4)) (sym whole)
          (table_level (kind_fields x).kind table.table)

      spells : kind_fields word ≡ unpinned_kind (kind_fields x)
      spells = fields_write (unpinned_kind (kind_fields x)) (unpinned_is (kind_fields x) spelled table.live)

      written : unpinned_kind (p.kinds f) ≡ sober (kind_fields word)
      written = ap unpinned_kind whole ∙ sym (live_sober (unpinned_kind (kind_fields x)) table.live) ∙ ap sober (sym spells)

      -- a pinned frame is counted
      pub counted : (y : ℕ) → told_word u (Refs f) ≡ y → 0 < ref_count y
      counted y at =
          let most = (orderly stays o u p b).counted f inside (ap (λ z. (kind_fields z).validated) is ∙ table.live) in
          let same : (kind_fields (told_word u (Kind f))).number ≡ (kind_fields x).number = ap (λ z. (kind_fields z).number) is in
          let some = table.some in
          let c : ref_count (told_word u (Refs f)) ≡ ref_count y = ap ref_count at in
          omega arith

      module _ (a : PortValue) (takes : Moves u a (Kind f) (Cas x word) kinds.Kind None x) where
        between_a : Between o a off
        between_a =
            between_by stays o u p b a (set_kind f (unpinned_kind (kind_fields x)) (told_word u)) off (moves_came u a _ _ _ _ _ takes) (exchanged u a (Kind f) x word takes (telling stays o u p b)) (λ s k. refl)
            (kinded o.machine (told_word u) p f (unpinned_kind (kind_fields x)) (unpinned_kind (p.kinds f)) b.frames written) (unkept_kind o.machine f (unpinned_kind (p.kinds f)) p (b.unkept f inside) b.unkept)

        there_a : told_word a (Kind f) ≡ word
        there_a = exchanged u a (Kind f) x word takes (telling stays o u p b) (Kind f) ∙ rw (equal_refl f) (stored word (told_word u (Kind f)))

        goes : (w : PortValue) (answers : List Bool) (answer : Result (Unit {0}) Stop) → LetsGo f a w answers answer → PartComes o w (let_go (type_number (p.kinds f).kind) f off) answer
        goes w answers answer lets =
            lets_go stays neither leaves_plain leaves_rest o machine a off between_a f (type_number (p.kinds f).kind) inside levels.1 levels.2 word there_a
            (ap (λ (k : KindWord). k.validated) spells ∙ table.live) (ap (λ (k : KindWord). k.kind) spells ∙ sym levels.0) w answers answer lets

    pub takes_marks : (w : PortValue) (answers : List Bool) (answer : Result (Unit {0}) Stop) → TakesMarks f x u w answers answer → PartComes o w (unpinned f (p.kinds f) p) answer
    takes_marks _ _ _ (clearing.TakesMarks.none unpinned unkept) = subst (Between o u) (sym (unpinned_none 0 f p (p.kinds f) (pinned_is ∙ unpinned))) b
    takes_marks _ _ _ (clearing.TakesMarks.unpinned a w answers answer on takes lets) =
        subst (λ c. PartComes o w (if c then let_go (type_number (p.kinds f).kind) f off else p) answer) (sym (pinned_is ∙ on)) (goes on a takes w answers answer lets)
    takes_marks _ _ _ (clearing.TakesMarks.unkept a w answers answer unpinned kept other takes lets) = absurd (kept_off kept)
    takes_marks _ _ _ (clearing.TakesMarks.page a w unpinned kept same takes dies) = absurd (kept_off kept)
    takes_marks _ _ _ (clearing.TakesMarks.lost w new found marked apart takes) = absurd (apart (sym (told_there u w _ _ _ _ _ takes (telling stays o u p b)) ∙ is))

  -- ---- all of them
  module _ (d : ℕ) (u : PortValue) (p : Plain) (b : Between o u p) where
    abbrev pub ClearsTo : PortValue → Result Bool Stop → Type 0
    ClearsTo w (Ok passed) = Between o w (stripped d f p)
    ClearsTo w (Err e) = (e ≡ Paused Due) × (q : Plain) × Within o w q × (stripped d f q ≡ stripped d f p)

    module _ (a c : PortValue) (x y : ℕ) (kind : Moves u a (Kind f) Load kinds.Look None x) (refs : Moves a c (Refs f) Load kinds.Look None y) where
      seen_a : Between o a p
      seen_a = between_looks stays o u p b a _ _ _ _ kind

      seen_c : Between o c p
      seen_c = between_looks stays o a p seen_a c _ _ _ _ refs

      kind_there : told_word c (Kind f) ≡ x
      kind_there =
          load_tells a c _ _ _ _ refs (telling stays o a p seen_a) (Kind f) ∙ load_tells u a _ _ _ _ kind (telling stays o u p b) (Kind f) ∙ told_there u a _ _ _ _ _ kind (telling stays o u p b)

      refs_there : told_word c (Refs f) ≡ y
      refs_there = load_tells a c _ _ _ _ refs (telling stays o a p seen_a) (Refs f) ∙ told_there a c _ _ _ _ _ refs (telling stays o a p seen_a)

      share_is : p.shares f ≡ share_of y
      share_is = seen_c.frames.shares f inside ∙ ap share_of refs_there

      other : owner_of y ≢ Some d → Between o c (stripped d f p)
      other apart = subst (Between o c) (sym (stripped_other d f p (ap (is_owned_by d) share_is ∙ not_owned d y apart))) seen_c

      module _ (own : owner_of y ≡ Some d) where
        owned_if : (p.kinds f).pinned ≡ true → is_owned_by d (p.shares f) ≡ true
        owned_if on = elim (cases_Bool (is_owned_by d (share_of y))) [
          | inl is ↦ ap (is_owned_by d) share_is ∙ is
          | inr apart ↦
              let none = owned_or_uncounted d y own apart in
              let some = counted c p seen_c x kind_there (sym (pinned_is c p seen_c x kind_there) ∙ on) y refs_there in
              absurd (omega arith)
        ]

        parts : stripped d f p ≡ unallocated d f (unpinned f (p.kinds f) p)
        parts = stripped_parts d f p owned_if

        still : stripped d f (unpinned f (p.kinds f) p) ≡ stripped d f p
        still = elim (cases_Bool (p.kinds f).pinned) [
          | inl on ↦ stripped_unpinned d f (unpinned f (p.kinds f) p) (unpinned_off f p on) ∙ sym parts
          | inr apart ↦ ap (stripped d f) (unpinned_none d f p (p.kinds f) apart)
        ]

        stopped : (w : PortValue) (answers : List Bool) (e : Stop) → TakesMarks f x c w answers (Err e) → ClearsTo w (Err e)
        stopped w answers e marks = let t = takes_marks c p seen_c x kind_there w answers (Err e) marks in (t.0, unpinned f (p.kinds f) p, t.1, still)

        cleared : (h w : PortValue) (answers : List Bool) (answer : Result Bool Stop) → TakesMarks f x c h answers (Ok tt) → GivesMark d f h w answer → ClearsTo w answer
        cleared h w answers (Ok passed) marks gives =
            subst (Between o w) (sym parts) (gives_mark stays o f inside d h (unpinned f (p.kinds f) p) (takes_marks c p seen_c x kind_there h answers (Ok tt) marks) w (Ok passed) gives)
        cleared h w answers (Err e) marks gives = absurd (gives_mark stays o f inside d h (unpinned f (p.kinds f) p) (takes_marks c p seen_c x kind_there h answers (Ok tt) marks) w (Err e) gives)

    pub clears : (w : PortValue) (answers : List Bool) (answer : Result Bool Stop) → ClearsFrame d f u w answers answer → ClearsTo w answer
    clears _ _ _ (clearing.ClearsFrame.others a w x y kind refs apart) = other a w x y kind refs apart
    clears _ _ _ (clearing.ClearsFrame.marked a c w x y answers e kind refs own marks) = stopped a c x y kind refs own w answers e marks
    clears _ _ _ (clearing.ClearsFrame.unmarked a c h w x y answers answer kind refs own marks gives) = cleared a c x y kind refs own h w answers answer marks gives
