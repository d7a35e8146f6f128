-- What a paused release left is settled, in one call or in several.
use Rattle.std.proofs.Common.{◌≡◌, ◌⊎◌, ℕ, suc, ◌+◌, ◌-◌, ◌<◌, ◌≤◌, if◌then◌else◌, ◌==◌, Bool, true, false, List, [], ◌∷◌, None, Result, Ok, Err, IsTrue, Option, refl, sym, ap, ◌∙◌, subst, inl, inr, arith}
use Rattle.std.proofs.lemmas.Bool.Decides.{nat_tests}
use Rattle.xp_words.specs.KindWords.{is_kind, kind_fields, kind_write}
use Rattle.xp_words.specs.Machine.{Machine}
use Rattle.xp_words.specs.declared.kind.KindWord.{KindWord}
use Rattle.xp_words.specs.declared.kind.PageType.{PageType}
use Rattle.xp_words.specs.declared.place.Place.{Place}
use Rattle.xp_words.specs.declared.place.Place.TheVariants.{Cell, Kind, Refs}
use Rattle.xp_words.specs.declared.reply.Pause.TheVariants.{Alive, Busy, Due, Flush, Lost}
use Rattle.xp_words.specs.declared.reply.Stop.{Stop}
use Rattle.xp_words.specs.declared.reply.Stop.TheVariants.{Refused, Paused}
use Rattle.xp_board.specs.Acts.{left_by}
use Rattle.xp_board.specs.KindSteps.{Live, Partial, form_of, resumed_kind}
use Rattle.xp_board.specs.Readings.{is_partial}
use Rattle.xp_board.specs.declared.step.Act.TheVariants.{Cas, Load, Store}
use Rattle.xp_board.specs.declared.step.StepKind.TheVariants as kinds
use Rattle.xp_board.specs.Told.{Post, PortValue, is_telling, told_word}
use Rattle.step_maker.specs.Moves.{Moves}
use Rattle.step_maker.specs.Plain.{Leaves}
use Rattle.step_maker.proofs.Visiting.{does_came}
use Rattle.step_maker.proofs.Telling.{came_telling, leaves, load_tells, moves_telling, told_there}
use Rattle.kind_words.specs.Kinds.{partial_kind}
use Rattle.partial_state.specs.Levels.{level_type}
use Rattle.partial_state.proofs.LevelFacts.{level_type-apart, level_type-table, level_type-typed}
use Rattle.table_words.specs.OldWords.{old_place}
use Rattle.table_words.specs.declared.old_words.OldWord.TheVariants.{First, Second}
use Rattle.table_law.specs.Levels.{closed}
use Rattle.table_law.specs.Plain.{Describes, Plain, share_of, sober, with_kind}
use Rattle.table_law.specs.Release.{drop_first, emptying, entries_held, is_counted_on, let_go, keeps_mark}
use Rattle.table_law.proofs.Undoing.{opened}
use Rattle.table_releases.specs.Found.{has_recorded}
use Rattle.level_release.specs.Course as course
use Rattle.level_release.specs.Course.{Emptied, Lowered, RanDown, Settled, SettledOne, SettledPartial, UnwoundDown, is_asked_within, one_more_done, resumed_table}
use Rattle.release_laws.specs.Pauses as pauses
use Rattle.release_laws.specs.Pauses.{GoesOnFrom, IsLeft, SecondIsNone, SettledAtLast}
use Rattle.step_maker.specs.Twins.{IsAlikeKind}
use Rattle.table_twins.proofs.Kinding.{described_alike}
use Rattle.release_laws.proofs.Liking.{IsSpent, emptying_spent}
use Rattle.release_laws.proofs.Running.{IsNotDue, Leads, at_level, given_back, lower_not_due, ran_leads}
use Rattle.release_laws.proofs.Unwinding.{IsOutermostOf, unwound_left}
use Rattle.release_laws.proofs.Dropping.{again_in_work}
use Rattle.release_laws.proofs.Entries.{none_recorded}
use Rattle.release_laws.proofs.Putting.{dead_words}
use Rattle.table_law.proofs.Counting.{at_here}
use Rattle.table_twins.proofs.Entering.{described_leaves}
use Rattle.table_releases.specs.Plain.{resumed_words}
use Rattle.xp_board.specs.Steps.{is_same}
use Rattle.kind_words.proofs.KindFacts.{kind_found}
use Rattle.xp_board.proofs.KindForms.{frame_inside}
use Rattle.step_maker.specs.Visits.{Does, Then}
use Rattle.frame_types.specs.Found.{Dies}
use Rattle.frame_words.specs.Freeing.{PutBy}
use Rattle.partial_state.specs.declared.stack.TableWork.{TableWork}

-- ---- the outermost table stays the outermost
abbrev IsOut : ℕ → ℕ → List TableWork → Type 0
IsOut f level [] = Unit {0}
IsOut f level (t ∷ ts) = IsOutermostOf f level (t ∷ ts)

rest_out : (f level : ℕ) (t : TableWork) (ts : List TableWork) → IsOutermostOf f level (t ∷ ts) → IsOut f level ts
rest_out f level t [] is = tt
rest_out f level t (o ∷ ts) is = is

more_out : (f level : ℕ) (t : TableWork) (ts : List TableWork) → IsOutermostOf f level (t ∷ ts) → IsOutermostOf f level (one_more_done t ∷ ts)
more_out f level t [] is = is
more_out f level t (o ∷ ts) is = is

lowered_out : (f level : ℕ) (u : PortValue) (us : List TableWork) (w : PortValue) (xs : List TableWork) (answer : Result Bool Stop) → Lowered u us w xs answer → IsOut f level us → IsOut f level xs
lowered_out f level _ _ _ _ _ (course.given u w t ts few a) is = more_out f level t ts is
lowered_out f level _ _ _ _ _ (course.opened u w t ts g k closing few a) is = more_out f level t ts is
lowered_out f level _ _ _ _ _ (course.stopped u w t ts stop few a) is = is
lowered_out f level _ _ _ _ _ (course.emptied u w t ts full a) is = rest_out f level t ts is

abbrev OutTo : ℕ → ℕ → List TableWork → Result (Unit {0}) Stop → Type 0
OutTo f level xs (Ok done) = IsOut f level xs
OutTo f level xs (Err (Paused Due)) = IsOutermostOf f level xs
OutTo f level xs (Err e) = Unit {0}

some_out : (below : Option ℕ) (f level : ℕ) (xs : List TableWork) → is_asked_within below xs ≡ true → IsOut f level xs → IsOutermostOf f level xs
some_out below f level [] asked is = absurd (cc)
some_out below f level (t ∷ ts) asked is = is

out_stopped : (f level : ℕ) (xs : List TableWork) (e : Stop) → IsNotDue e → OutTo f level xs (Err e)
out_stopped f level xs (Refused x) off = tt
out_stopped f level xs (Paused Due) off = absurd off
out_stopped f level xs (Paused (Lost x y z)) off = tt
out_stopped f level xs (Paused (Busy g x)) off = tt
out_stopped f level xs (Paused (Flush x y z)) off = tt
out_stopped f level xs (Paused (Alive x y)) off = tt

ran_out : {below : Option ℕ} → (f level : ℕ) (v : PortValue) (ts : List TableWork) (w : PortValue) (xs : List TableWork) (answers : List Bool) (answer : Result (Unit {0}) Stop) → RanDown below v ts w xs answers answer → IsOut f level ts → OutTo f level xs answer
ran_out f level v ts _ _ _ _ course.begun is = is
ran_out f level v ts _ _ _ _ (course.unasked u w us xs done answers before step off) is = lowered_out f level u us w xs (Ok done) step (ran_out f level v ts u us answers (Ok tt) before is)
ran_out f level v ts _ _ _ _ (course.asked u w us xs answers before step on) is = lowered_out f level u us w xs (Ok true) step (ran_out f level v ts u us answers (Ok tt) before is)
ran_out {below} f level v ts _ _ _ _ (course.due u w us xs answers before step on) is = some_out below f level xs on (lowered_out f level u us w xs (Ok true) step (ran_out f level v ts u us answers (Ok tt) before is))
ran_out f level v ts _ _ _ _ (course.stopped u w us xs answers stop before step) is = out_stopped f level xs stop (lower_not_due u us w xs stop step)

-- what it comes to
abbrev pub SettledTo : Machine → PortValue → ℕ → ℕ → Plain → Result (Unit {0}) Stop → Type 0
SettledTo n w f level q (Ok done) = (is_telling w ≡ true) × Describes n (told_word w) q
SettledTo n w f level q (Err (Paused Due)) = IsLeft n w f level q
SettledTo n w f level q (Err e) = Unit {0}

-- a pause of the whole
unwound_to : (n : Machine) (q : Plain) (f level : ℕ) (us : List TableWork) (y w : PortValue) → IsOutermostOf f level us → Leads n y us q → UnwoundDown y us w → IsLeft n w f level q
unwound_to n q f level [] y w is s down = absurd is
unwound_to n q f level (t ∷ ts) y w is s down = unwound_left n f level q t ts y w is s down

pub paused_to : {below : Option ℕ} → (n : Machine) (q : Plain) (f level : ℕ) (u : PortValue) (t : TableWork) (y : PortValue) (us : List TableWork) (w : PortValue) (answers : List Bool) (stop : Stop) → RanDown below u (t ∷ []) y us answers (Err stop) → (t.frame ≡ f) × (t.level ≡ level) → Leads n u (t ∷ []) q → UnwoundDown y us w →
    SettledTo n w f level q (Err stop)
paused_to n q f level u t y us w answers (Refused x) ran is begins down = tt
paused_to n q f level u t y us w answers (Paused Due) ran is begins down = unwound_to n q f level us y w (ran_out f level u (t ∷ []) y us answers (Err (Paused Due)) ran is) (ran_leads n q u (t ∷ []) y us answers (Err (Paused Due)) ran begins) down
paused_to n q f level u t y us w answers (Paused (Lost a b c)) ran is begins down = tt
paused_to n q f level u t y us w answers (Paused (Busy g x)) ran is begins down = tt
paused_to n q f level u t y us w answers (Paused (Flush a b c)) ran is begins down = tt
paused_to n q f level u t y us w answers (Paused (Alive a b)) ran is begins down = tt

module _ (n : Machine) (v : PortValue) (f level : ℕ) (q : Plain) (s : IsLeft n v f level q) where
  abbrev place : Place
  place = old_place v.post.vcpu First

  abbrev t : PageType
  t = level_type level

  partial_kind_there : s.plain.kinds f ≡ partial_kind t false false s.held 0
  partial_kind_there = s.describes.kinds f s.inside ∙ ap sober s.word

  -- ---- the word is emptied, and the frame's kind word looked at
  module _ (a b c : PortValue) (g word : ℕ) (look : Moves v a place Load kinds.Look None (g + 1)) (store : Moves a b place (Store 0) kinds.Context None (g + 1)) (seen : Moves b c (Kind g) Load kinds.Look None word) where
    same : g ≡ f
    same = let e = told_there v a place Load kinds.Look None (g + 1) look s.telling in let k = s.named in omega arith

    telling_a : is_telling a ≡ true
    telling_a = moves_telling v a _ _ _ _ _ look ∙ s.telling

    telling_b : is_telling b ≡ true
    telling_b = moves_telling a b _ _ _ _ _ store ∙ telling_a

    telling_c : is_telling c ≡ true
    telling_c = moves_telling b c _ _ _ _ _ seen ∙ telling_b

    machine_c : c.post.machine ≡ n
    machine_c = ap (λ (y : PortValue). y.post.machine) seen.to ∙ (ap (λ (y : PortValue). y.post.machine) store.to ∙ (ap (λ (y : PortValue). y.post.machine) look.to ∙ s.machine))

    refs_c : (h : ℕ) → told_word c (Refs h) ≡ told_word v (Refs h)
    unfolding left_by
    refs_c h = load_tells b c _ _ _ _ seen telling_b (Refs h) ∙ (leaves a b place (Store 0) kinds.Context None (g + 1) store telling_a (Refs h) ∙ load_tells v a _ _ _ _ look s.telling (Refs h))

    kinds_c : (h : ℕ) → told_word c (Kind h) ≡ told_word v (Kind h)
    unfolding left_by
    kinds_c h = load_tells b c _ _ _ _ seen telling_b (Kind h) ∙ (leaves a b place (Store 0) kinds.Context None (g + 1) store telling_a (Kind h) ∙ load_tells v a _ _ _ _ look s.telling (Kind h))

    cells_c : (h i : ℕ) → told_word c (Cell h i) ≡ told_word v (Cell h i)
    unfolding left_by
    cells_c h i = load_tells b c _ _ _ _ seen telling_b (Cell h i) ∙ (leaves a b place (Store 0) kinds.Context None (g + 1) store telling_a (Cell h i) ∙ load_tells v a _ _ _ _ look s.telling (Cell h i))

    describes_c : Describes n (told_word c) s.plain
    describes_c =
        record {
          shares = λ h inside. s.describes.shares h inside ∙ ap share_of (sym (refs_c h));
          kinds = λ h inside. s.describes.kinds h inside ∙ ap (λ x. sober (kind_fields x)) (sym (kinds_c h));
          cells = λ h i inside few. s.describes.cells h i inside few ∙ sym (cells_c h i);
        }

    there : told_word c (Kind g) ≡ word
    there = load_tells b c _ _ _ _ seen telling_b (Kind g) ∙ told_there b c (Kind g) Load kinds.Look None word seen telling_b

    word_is : kind_fields word ≡ partial_kind t false false s.held s.stamp
    word_is = ap kind_fields (sym there ∙ (kinds_c g ∙ ap (λ i. told_word v (Kind i)) same)) ∙ s.word

    form_is : form_of (kind_fields word) ≡ Partial
    form_is = ap form_of word_is

    -- ---- it comes into work again
    module _ (d : PortValue) (take : Moves c d (Kind g) (Cas word (kind_write (resumed_kind (kind_fields word)))) kinds.Kind None word) where
      abbrev inner : Plain
      inner = with_kind f (emptying (s.plain.kinds f)) s.plain

      telling_d : is_telling d ≡ true
      telling_d = moves_telling c d _ _ _ _ _ take ∙ telling_c

      machine_d : d.post.machine ≡ n
      machine_d = ap (λ (y : PortValue). y.post.machine) take.to ∙ machine_c

      spelled : IsTrue (is_kind (kind_fields (told_word c (Kind g))))
      spelled =
          let k = kind_found b.post.machine b.post.vcpu b.holdings g word (frame_inside b.post.machine g seen.may.place) seen.finds in
          subst (λ y. IsTrue (is_kind (kind_fields y))) (sym there) (subst (λ y. IsTrue (is_kind y)) (sym k.fields) k.is)

      is_partial_there : IsTrue (is_partial (kind_fields (told_word c (Kind g))))
      is_partial_there = subst (λ y. IsTrue (is_partial (kind_fields y))) (sym there) (subst (λ k. IsTrue (is_partial k)) (sym word_is) refl)

      exchanged : (x : ℕ) → x ≡ word → left_by (Cas word (kind_write (resumed_kind (kind_fields word)))) x ≡ left_by (Store (kind_write (resumed_kind (kind_fields x)))) x
      unfolding left_by
      exchanged x is = subst (λ x. left_by (Cas word (kind_write (resumed_kind (kind_fields word)))) x ≡ left_by (Store (kind_write (resumed_kind (kind_fields x)))) x) (sym is) (let e : (word == word) ≡ true = grind (arith, nat_tests) in rw e refl)

      words_d : Leaves d (resumed_words g (told_word c))
      words_d p = leaves c d (Kind g) _ kinds.Kind None word take telling_c p ∙ ap (λ x. if is_same p (Kind g) then x else told_word c p) (exchanged (told_word c (Kind g)) there)

      describes_d : Describes n (told_word d) inner
      describes_d =
          described_leaves n d _ _ words_d
          (subst (λ i. Describes n (resumed_words g (told_word c)) (with_kind i (emptying (s.plain.kinds i)) s.plain)) same (again_in_work n (told_word c) s.plain level g describes_c (subst (λ i. i < n.frames) (sym same) s.inside) spelled is_partial_there))

      held_is : entries_held (s.plain.kinds f) ≡ s.held
      held_is = ap entries_held partial_kind_there

      counted_is : is_counted_on (s.plain.kinds f) ≡ false
      counted_is = ap is_counted_on partial_kind_there

      suc_level : suc (level - 1) ≡ level
      suc_level = let low = s.low in omega arith

      whole : let_go level f s.plain ≡ closed f t (drop_first (let_go (level - 1)) t f s.held inner)
      whole =
          subst (λ l. let_go l f s.plain ≡ closed f (level_type l) (drop_first (let_go (level - 1)) (level_type l) f s.held inner)) suc_level
          (opened (level - 1) f s.plain counted_is (ap keeps_mark partial_kind_there) ∙ ap (λ k. closed f (level_type (suc (level - 1))) (drop_first (let_go (level - 1)) (level_type (suc (level - 1))) f k inner)) held_is)

      -- ---- its entries are given back
      module _ (u : PortValue) (x k : ℕ) (level_is : level_type k ≡ (kind_fields word).kind) (few : k ≤ 4) (owner : Moves d u (Refs g) Load kinds.Look None x) where
        k_is : k ≡ level
        k_is = level_type-apart k level few s.high (level_is ∙ ap (λ (j : KindWord). j.kind) word_is)

        begins : Leads n u (resumed_table g k (kind_fields word) ∷ []) q
        unfolding given_back
        begins =
            let progress : (kind_fields word).progress ≡ s.held = ap (λ (j : KindWord). j.progress) word_is in
            let few_held = s.few in
            let count : 512 - (512 - (kind_fields word).progress) ≡ s.held = omega arith in
            let l = level - 1 in
            let k_suc : k ≡ suc l = k_is ∙ sym suc_level in
            let at : inner.kinds g ≡ emptying (s.plain.kinds f) = ap inner.kinds same ∙ at_here f (emptying (s.plain.kinds f)) s.plain.kinds in
            record {
              machine = ap (λ (y : PortValue). y.post.machine) owner.to ∙ machine_d;
              telling = moves_telling d u _ _ _ _ _ owner ∙ telling_d;
              tables = ((let low = s.low in omega arith), few, omega arith, subst (λ i. i < n.frames) (sym same) s.inside, tt);
              plain = inner;
              describes = described_leaves n u (told_word d) inner (load_tells d u (Refs g) kinds.Look None x owner telling_d) describes_d;
              spent = (subst IsSpent (sym at) (emptying_spent (s.plain.kinds f)), (λ off. off), tt);
              under = tt;
              left = at_level (resumed_table g k (kind_fields word)) [] l inner k_suc
                  ∙ ap (λ j. closed g (level_type (suc l)) (drop_first (let_go l) (level_type (suc l)) g j inner)) count
                  ∙ ap (λ i. closed i (level_type (suc l)) (drop_first (let_go l) (level_type (suc l)) i s.held inner)) same
                  ∙ ap (λ j. closed f (level_type j) (drop_first (let_go l) (level_type j) f s.held inner)) suc_level
                  ∙ sym whole ∙ s.left;
            }

        emptied_to : {below : Option ℕ} → (w : PortValue) (answers : List Bool) (answer : Result (Unit {0}) Stop) → Emptied below u (resumed_table g k (kind_fields word)) w answers answer → SettledTo n w f level q answer
        unfolding given_back
        emptied_to _ _ _ (course.finished w answers ran) =
            let e = ran_leads n q u (resumed_table g k (kind_fields word) ∷ []) w [] answers (Ok tt) ran begins in
            (e.telling, subst (Describes n (told_word w)) e.left e.describes)
        emptied_to _ _ _ (course.paused y w us answers stop ran unwound) = paused_to n q f level u (resumed_table g k (kind_fields word)) y us w answers stop ran (same, k_is) begins unwound

    -- ---- or it holds no entries
    module _ (d w : PortValue) (take : Moves c d (Kind g) (Cas word (kind_write (resumed_kind (kind_fields word)))) kinds.Kind None word) where
      none_left : has_recorded (kind_fields word).kind (kind_fields word) ≡ false → Does d w (λ vs. Then (Dies g (kind_fields word).kind (kind_fields word).unflushed) (PutBy g) vs) → (is_telling w ≡ true) × Describes n (told_word w) q
      unfolding drop_first
      none_left none dies =
          let kind_is : (kind_fields word).kind ≡ t = ap (λ (j : KindWord). j.kind) word_is in
          let flush_is : (kind_fields word).unflushed ≡ false = ap (λ (j : KindWord). j.unflushed) word_is in
          let table = level_type-table level s.low in
          let off : has_recorded t (partial_kind t false false s.held s.stamp) ≡ false = subst (λ j. has_recorded t j ≡ false) word_is (subst (λ y. has_recorded y (kind_fields word) ≡ false) kind_is none) in
          let zero_held : s.held ≡ 0 = none_recorded t (partial_kind t false false s.held s.stamp) table off in
          let dead = dead_words n d w (inner d take) g t (machine_d d take) (telling_d d take) (describes_d d take) (subst (λ i. i < n.frames) (sym same) s.inside) (level_type-typed level)
          (subst (λ b. Does d w (λ vs. Then (Dies g t b) (PutBy g) vs)) flush_is (subst (λ y. Does d w (λ vs. Then (Dies g y (kind_fields word).unflushed) (PutBy g) vs)) kind_is dies)) in (
            came_telling d w (does_came d w _ dies) ∙ telling_d d take,
            subst (Describes n (told_word w))
                (ap (λ i. closed i t (inner d take)) same ∙ sym (whole d take ∙ ap (λ k. closed f t (drop_first (let_go (level - 1)) t f k (inner d take))) zero_held) ∙ s.left) dead,
          )

      settled_partial : (below : Option ℕ) (answers : List Bool) (answer : Result (Unit {0}) Stop) (b : Bool) → has_recorded (kind_fields word).kind (kind_fields word) ≡ b → SettledPartial below d w g (kind_fields word) answers answer b → SettledTo n w f level q answer
      settled_partial below answers answer true some a = emptied_to d take a.0 a.1 a.2 a.3 a.4 a.5 w answers answer a.6
      settled_partial below answers answer false none a = subst (SettledTo n w f level q) (sym a.0) (none_left none a.2)

  -- ---- the first word
  not_live : Partial ≡ Live → ⊥
  not_live e = cc

  pub first_settled : {below : Option ℕ} → (w : PortValue) (answers : List Bool) (answer : Result (Unit {0}) Stop) → SettledOne below v First w answers answer → SettledTo n w f level q answer
  first_settled _ _ _ (course.none w look) = absurd (let e = told_there v w place Load kinds.Look None 0 look s.telling in let k = s.named in omega arith)
  first_settled _ _ _ (course.live a b c w g word answers answer look store seen live released) = absurd (not_live (sym (form_is a b c g word look store seen) ∙ live))
  first_settled {below} _ _ _ (course.partial a b c d w g word answers answer look store seen form take goes) =
      settled_partial a b c g word look store seen d w take below answers answer (has_recorded (kind_fields word).kind (kind_fields word)) refl goes
  first_settled _ _ _ (course.lost a b c d w g word found look store seen form take off names) =
      absurd (off (sym (told_there c d (Kind g) _ kinds.Kind None found take (telling_c a b c g word look store seen)) ∙ there a b c g word look store seen))
  first_settled _ _ _ (course.busy a b c w g word look store seen off_live off_partial names) = absurd (off_partial (form_is a b c g word look store seen))

-- ---- both words
module _ (u : PortValue) (telling : is_telling u ≡ true) (none : told_word u (old_place u.post.vcpu Second) ≡ 0) where
  never : (a : PortValue) (g : ℕ) → Moves u a (old_place u.post.vcpu Second) Load kinds.Look None (g + 1) → ⊥
  never a g look = let e = told_there u a _ Load kinds.Look None (g + 1) look telling in let k = none in omega arith

  pub second_none : {below : Option ℕ} → (w : PortValue) (answers : List Bool) (answer : Result (Unit {0}) Stop) → SettledOne below u Second w answers answer → (answer ≡ Ok tt) × ((q : Place) → told_word w q ≡ told_word u q)
  second_none _ _ _ (course.none w look) = (refl, load_tells u w _ _ _ _ look telling)
  second_none _ _ _ (course.live a b c w g word answers answer look store seen live released) = absurd (never a g look)
  second_none _ _ _ (course.partial a b c d w g word answers answer look store seen form take goes) = absurd (never a g look)
  second_none _ _ _ (course.lost a b c d w g word found look store seen form take off names) = absurd (never a g look)
  second_none _ _ _ (course.busy a b c w g word look store seen off_live off_partial names) = absurd (never a g look)

  second_telling : {below : Option ℕ} → (w : PortValue) (answers : List Bool) (answer : Result (Unit {0}) Stop) → SettledOne below u Second w answers answer → is_telling w ≡ true
  second_telling _ _ _ (course.none w look) = moves_telling u w _ _ _ _ _ look ∙ telling
  second_telling _ _ _ (course.live a b c w g word answers answer look store seen live released) = absurd (never a g look)
  second_telling _ _ _ (course.partial a b c d w g word answers answer look store seen form take goes) = absurd (never a g look)
  second_telling _ _ _ (course.lost a b c d w g word found look store seen form take off names) = absurd (never a g look)
  second_telling _ _ _ (course.busy a b c w g word look store seen off_live off_partial names) = absurd (never a g look)

pub settled : {below : Option ℕ} → (n : Machine) (v : PortValue) (f level : ℕ) (q : Plain) (w : PortValue) (answers : List Bool) (answer : Result (Unit {0}) Stop) → IsLeft n v f level q → (a : Settled below v w answers answer) → SecondIsNone a → SettledTo n w f level q answer
settled n v f level q _ _ _ s (course.first w answers stop one) none = first_settled n v f level q s w answers (Err stop) one
settled n v f level q _ _ _ s (course.both u w answers more answer one two) none =
    let first = first_settled n v f level q s u answers (Ok tt) one in
    let second = second_none u first.0 none w more answer two in
    subst (SettledTo n w f level q) (sym second.0) (second_telling u first.0 none w more answer two, described_leaves n w (told_word u) q second.1 first.1)

-- ---- between two calls
alike_fields : (x y : ℕ) (k : KindWord) (n : ℕ) → (x ≡ y) ⊎ IsAlikeKind (kind_fields x) (kind_fields y) → kind_fields y ≡ record k { number = n } → kind_fields x ≡ record k { number = (kind_fields x).number }
alike_fields x y k n (inl equal) is = let e = ap kind_fields equal ∙ is in e ∙ ap (λ j. record k { number = j }) (sym (ap (λ (z : KindWord). z.number) e))
alike_fields x y k n (inr alike) is = ap (λ (j : KindWord). record j { number = (kind_fields x).number }) (sym alike.1 ∙ is)

pub goes_on : (n : Machine) (u x : PortValue) (f level : ℕ) (q : Plain) → GoesOnFrom u x → IsLeft n u f level q → IsLeft n x f level q
goes_on n u x f level q on s =
    let k = partial_kind (level_type level) false false s.held 0 in
    let word = alike_fields (told_word x (Kind f)) (told_word u (Kind f)) k s.stamp (on.words (Kind f)) s.word in
    record {
      machine = ap (λ (p : Post). p.machine) on.post ∙ s.machine;
      telling = on.telling;
      plain = s.plain;
      describes = described_alike n (told_word x) (told_word u) s.plain on.words s.describes;
      held = s.held;
      few = s.few;
      stamp = (kind_fields (told_word x (Kind f))).number;
      word = word;
      inside = s.inside;
      low = s.low;
      high = s.high;
      left = s.left;
      named = subst (λ (p : Post). told_word x (old_place p.vcpu First) ≡ f + 1) (sym on.post) (on.words (old_place u.post.vcpu First) (λ e. absurd (omega arith)) (λ e. absurd (omega arith)) ∙ s.named);
    }

pub settled_at_last : (n : Machine) (f level : ℕ) (q : Plain) (v w : PortValue) → IsLeft n v f level q → SettledAtLast v w → Describes n (told_word w) q
settled_at_last n f level q _ _ s (pauses.done below v w answers a none) = (settled n v f level q w answers (Ok tt) s a none).1
settled_at_last n f level q _ _ s (pauses.again below v u x w answers a none on rest) = settled_at_last n f level q x w (goes_on n u x f level q on (settled n v f level q u answers (Err (Paused Due)) s a none)) rest
