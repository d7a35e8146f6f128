-- What an earlier turn left is settled: that is determined, too.
use Rattle.std.proofs.Common.{◌≡◌, ◌≢◌, ◌+◌, ◌++◌, ℕ, Bool, true, false, List, [], Option, None, Result, Ok, Err, length, refl, sym, ap, ◌∙◌, subst, arith}
use Rattle.xp_words.specs.KindWords.{kind_fields, kind_write}
use Rattle.xp_words.specs.Machine.{Machine}
use Rattle.xp_words.specs.Places.{number, sizes_of}
use Rattle.xp_words.specs.declared.kind.KindWord.{KindWord}
use Rattle.xp_words.specs.declared.place.Place.TheVariants.{Kind}
use Rattle.xp_words.specs.declared.reply.Pause.TheVariants.{Busy, Lost}
use Rattle.xp_words.specs.declared.reply.Stop.{Stop}
use Rattle.xp_words.specs.declared.reply.Stop.TheVariants.{Paused}
use Rattle.xp_preempt.specs.Gates.{GivesAnswers, asks_on}
use Rattle.xp_board.specs.KindSteps.{Live, Partial, form_of, resumed_kind}
use Rattle.xp_board.specs.Told.{PortValue}
use Rattle.xp_board.specs.declared.step.Act.TheVariants.{Cas, Load, Store}
use Rattle.xp_board.specs.declared.step.StepKind.TheVariants as steps
use Rattle.step_maker.specs.Moves.{Came, Moves}
use Rattle.step_maker.proofs.Coming.{came_self, came_trans}
use Rattle.partial_state.proofs.LevelFacts.{level_type-apart}
use Rattle.table_words.specs.OldWords.{old_place}
use Rattle.table_words.specs.declared.old_words.OldWord.{OldWord}
use Rattle.table_words.specs.declared.old_words.OldWord.TheVariants.{Second}
use Rattle.table_entries.specs.Acquiring.{Named}
use Rattle.table_releases.specs.Found.{has_recorded}
use Rattle.level_release.specs.Course as course
use Rattle.level_release.specs.Course.{Emptied, ReleasedWithin, Settled, SettledOne, SettledPartial, left_emptied, left_one, left_partial, left_released, left_settled, resumed_table}
use Rattle.determined_laws.specs.Courses.{Alike}
use Rattle.determined_laws.proofs.Courses.{alike_apart, alike_map, alike_move, alike_then}
use Rattle.determined_laws.proofs.Waits.{up_same}
use Rattle.determined_releases.proofs.Answers.{gives_first, gives_rest}
use Rattle.determined_releases.proofs.Calls.{alike_split, alike_step, dead_alike, dead_came, move_came, move_on, named_alike}
use Rattle.determined_releases.proofs.Released.{emptied_from, released_alike, released_came}
use Rattle.determined_releases.proofs.Runs.{emptied_came}

-- the same answers of the gate, the same answer, and the same left to do
abbrev Same : List Bool → List Bool → Result (Unit {0}) Stop → Result (Unit {0}) Stop → Option ℕ → Option ℕ → Type 0
Same answers others a b l k = (answers ≡ others) × (a ≡ b) × (l ≡ k)

-- ---- a partial frame, in work again
partial_came : (below : Option ℕ) (v w : PortValue) (f : ℕ) (k : KindWord) (answers : List Bool) (a : Result (Unit {0}) Stop) (has : Bool) → SettledPartial below v w f k answers a has → Came v w
partial_came below v w f k answers a true p = move_on w p.5 (emptied_came p.6)
partial_came below v w f k answers a false p = dead_came v w f k.kind k.unflushed p.2

module _ (says : ℕ → Bool) (n : ℕ) (below : Option ℕ) where
  partial_alike : (v w x : PortValue) (f : ℕ) (k : KindWord) (answers others : List Bool) (a b : Result (Unit {0}) Stop) (has : Bool) → GivesAnswers says n answers → GivesAnswers says n others →
      (p : SettledPartial below v w f k answers a has) → (q : SettledPartial below v x f k others b has) →
      Alike v w x (Same answers others a b (left_partial below v w f k answers a has p) (left_partial below v x f k others b has q))
  partial_alike v w x f k answers others a b true g h p q =
      alike_step p.5 q.5 (emptied_came p.6) (emptied_came q.6) (λ e m. emptied_from says n g h e (ap (λ z. resumed_table f z k) (level_type-apart p.2 q.2 p.4 q.4 (p.3 ∙ sym q.3))) p.6 q.6)
  partial_alike v w x f k answers others a b false g h p q = alike_map (dead_alike v w f k.kind k.unflushed x p.2 q.2) (λ e. (p.1 ∙ sym q.1, p.0 ∙ sym q.0, refl))

-- ---- the frame that an old word named, by its kind word: with what is left to do
abbrev has_some : ℕ → Bool
has_some word = has_recorded (kind_fields word).kind (kind_fields word)

module _ (below : Option ℕ) (n : Machine) where
  data Exchanged (d : PortValue) (f word found : ℕ) (w : PortValue) (answers : List Bool) (a : Result (Unit {0}) Stop) (left : Option ℕ) : Type 0 where
    done : found ≡ word → (p : SettledPartial below d w f (kind_fields word) answers a (has_some word)) → left ≡ left_partial below d w f (kind_fields word) answers a (has_some word) p → Exchanged d f word found w answers a left
    lost : found ≢ word → Named d w f → answers ≡ [] → a ≡ Err (Paused (Lost (number (sizes_of n) (Kind f)) word found)) → left ≡ below → Exchanged d f word found w answers a left

  data Rest (c : PortValue) (f word : ℕ) (w : PortValue) (answers : List Bool) (a : Result (Unit {0}) Stop) (left : Option ℕ) : Type 0 where
    live : form_of (kind_fields word) ≡ Live → (p : ReleasedWithin below c f (kind_fields word).kind w answers a) → left ≡ left_released p → Rest c f word w answers a left
    partial : (d : PortValue) (found : ℕ) → form_of (kind_fields word) ≡ Partial → Moves c d (Kind f) (Cas word (kind_write (resumed_kind (kind_fields word)))) steps.Kind None found →
        Exchanged d f word found w answers a left → Rest c f word w answers a left
    busy : form_of (kind_fields word) ≢ Live → form_of (kind_fields word) ≢ Partial → Named c w f → answers ≡ [] → a ≡ Err (Paused (Busy f word)) → left ≡ below → Rest c f word w answers a left

  -- behind the look at the old word, and behind its store
  abbrev Seen : PortValue → ℕ → PortValue → List Bool → Result (Unit {0}) Stop → Option ℕ → Type 0
  Seen b f w answers a left = (c : PortValue) × (word : ℕ) × Moves b c (Kind f) Load steps.Look None word × Rest c f word w answers a left

  abbrev Taken : ℕ → OldWord → PortValue → ℕ → PortValue → List Bool → Result (Unit {0}) Stop → Option ℕ → Type 0
  Taken s which u f w answers a left = (b : PortValue) × Moves u b (old_place s which) (Store 0) steps.Context None (f + 1) × Seen b f w answers a left

data OneBy (below : Option ℕ) (v : PortValue) (which : OldWord) (w : PortValue) (answers : List Bool) (a : Result (Unit {0}) Stop) (left : Option ℕ) : Type 0 where
  empty : Moves v w (old_place v.post.vcpu which) Load steps.Look None 0 → answers ≡ [] → a ≡ Ok tt → left ≡ below → OneBy below v which w answers a left
  names : (u : PortValue) (f : ℕ) → Moves v u (old_place v.post.vcpu which) Load steps.Look None (f + 1) → Taken below v.post.machine v.post.vcpu which u f w answers a left → OneBy below v which w answers a left

one_by : {below : Option ℕ} {v w : PortValue} {which : OldWord} {answers : List Bool} {a : Result (Unit {0}) Stop} → (p : SettledOne below v which w answers a) → OneBy below v which w answers a (left_one p)
one_by (course.none w look) = empty look refl refl refl
one_by (course.live a b c w f word answers r look take see form released) = names a f look (b, take, (c, word, see, live form released refl))
one_by (course.partial a b c d w f word answers r look take see form resume settled) = names a f look (b, take, (c, word, see, partial d word form resume (done refl settled refl)))
one_by (course.lost a b c d w f word found look take see form resume other again) = names a f look (b, take, (c, word, see, partial d found form resume (lost other again refl refl refl)))
one_by (course.busy a b c w f word look take see unlive whole again) = names a f look (b, take, (c, word, see, busy unlive whole again refl refl refl))

-- ---- all came on
module _ {below : Option ℕ} {n : Machine} where
  exchanged_came : (d w : PortValue) (f word found : ℕ) (answers : List Bool) (a : Result (Unit {0}) Stop) (left : Option ℕ) → Exchanged below n d f word found w answers a left → Came d w
  exchanged_came d w f word found answers a left (done is p l) = partial_came below d w f (kind_fields word) answers a (has_some word) p
  exchanged_came d w f word found answers a left (lost off again none is l) = move_came again

  rest_came : (c w : PortValue) (f word : ℕ) (answers : List Bool) (a : Result (Unit {0}) Stop) (left : Option ℕ) → Rest below n c f word w answers a left → Came c w
  rest_came c w f word answers a left (live form p l) = released_came p
  rest_came c w f word answers a left (partial d found form resume p) = move_on w resume (exchanged_came d w f word found answers a left p)
  rest_came c w f word answers a left (busy unlive whole again none is l) = move_came again

  seen_came : (b w : PortValue) (f : ℕ) (answers : List Bool) (a : Result (Unit {0}) Stop) (left : Option ℕ) → Seen below n b f w answers a left → Came b w
  seen_came b w f answers a left p = move_on w p.2 (rest_came p.0 w f p.1 answers a left p.3)

  taken_came : (s : ℕ) (which : OldWord) (u w : PortValue) (f : ℕ) (answers : List Bool) (a : Result (Unit {0}) Stop) (left : Option ℕ) → Taken below n s which u f w answers a left → Came u w
  taken_came s which u w f answers a left p = move_on w p.1 (seen_came p.0 w f answers a left p.2)

one_came : {below : Option ℕ} {v w : PortValue} {which : OldWord} {answers : List Bool} {a : Result (Unit {0}) Stop} {left : Option ℕ} → OneBy below v which w answers a left → Came v w
one_came (empty look none is l) = move_came look
one_came {v = v} {w} {which} {answers} {a} {left} (names u f look p) = move_on w look (taken_came v.post.vcpu which u w f answers a left p)

-- ---- two of them, from one port
module _ (says : ℕ → Bool) (k : ℕ) (below : Option ℕ) (n : Machine) (w x : PortValue) (answers others : List Bool) (a b : Result (Unit {0}) Stop) (left right : Option ℕ) (g : GivesAnswers says k answers) (h : GivesAnswers says k others) where
  abbrev Both : PortValue → Type 0
  Both v = Alike v w x (Same answers others a b left right)

  exchanged_alike : (d : PortValue) (f word found : ℕ) → Exchanged below n d f word found w answers a left → Exchanged below n d f word found x others b right → Both d
  exchanged_alike d f word found (done is p l) (done are q r) =
      alike_map (partial_alike says k below d w x f (kind_fields word) answers others a b (has_some word) g h p q) (λ e. (e.0, e.1, l ∙ (e.2 ∙ sym r)))
  exchanged_alike d f word found (done is p l) (lost off again none are r) = absurd (off is)
  exchanged_alike d f word found (lost off again none is l) (done are q r) = absurd (off are)
  exchanged_alike d f word found (lost off again none is l) (lost out named nothing are r) = alike_map (named_alike f again named) (λ e. (none ∙ sym nothing, is ∙ sym are, l ∙ sym r))

  rest_alike : (c : PortValue) (f word : ℕ) → Rest below n c f word w answers a left → Rest below n c f word x others b right → Both c
  rest_alike c f word (live form p l) (live also q r) = alike_map (released_alike says k g h p q) (λ e. (e.0, e.1, l ∙ (e.2 ∙ sym r)))
  rest_alike c f word (live form p l) (partial d found also resume q) = absurd (let e = sym form ∙ also in cc)
  rest_alike c f word (live form p l) (busy unlive whole again none are r) = absurd (unlive form)
  rest_alike c f word (partial d found form resume p) (live also q r) = absurd (let e = sym form ∙ also in cc)
  rest_alike c f word (partial d found form resume p) (partial e other also swap q) =
      alike_step resume swap (exchanged_came d w f word found answers a left p) (exchanged_came e x f word other others b right q)
      (λ s m. exchanged_alike d f word found p (subst (λ z. Exchanged below n z f word found x others b right) (sym s) (subst (λ z. Exchanged below n e f word z x others b right) (sym m) q)))
  rest_alike c f word (partial d found form resume p) (busy unlive whole again none are r) = absurd (whole form)
  rest_alike c f word (busy unlive whole again none is l) (live also q r) = absurd (unlive also)
  rest_alike c f word (busy unlive whole again none is l) (partial d found also resume q) = absurd (whole also)
  rest_alike c f word (busy unlive whole again none is l) (busy unlived full named nothing are r) = alike_map (named_alike f again named) (λ e. (none ∙ sym nothing, is ∙ sym are, l ∙ sym r))

  seen_alike : (c : PortValue) (f : ℕ) → Seen below n c f w answers a left → Seen below n c f x others b right → Both c
  seen_alike c f p q =
      alike_step p.2 q.2 (rest_came p.0 w f p.1 answers a left p.3) (rest_came q.0 x f q.1 others b right q.3)
      (λ s m. rest_alike p.0 f p.1 p.3 (subst (λ z. Rest below n z f p.1 x others b right) (sym s) (subst (λ z. Rest below n q.0 f z x others b right) (sym m) q.3)))

  taken_alike : (s : ℕ) (which : OldWord) (u : PortValue) (f : ℕ) → Taken below n s which u f w answers a left → Taken below n s which u f x others b right → Both u
  taken_alike s which u f p q =
      alike_step p.1 q.1 (seen_came p.0 w f answers a left p.2) (seen_came q.0 x f others b right q.2) (λ e m. seen_alike p.0 f p.2 (subst (λ z. Seen below n z f x others b right) (sym e) q.2))

-- ---- one old word
pub none_named : (f : ℕ) → 0 ≢ f + 1
none_named f e = omega (arith, e)

module _ (says : ℕ → Bool) (n : ℕ) {below : Option ℕ} {v w x : PortValue} {which : OldWord} {answers others : List Bool} {a b : Result (Unit {0}) Stop} {left right : Option ℕ} (g : GivesAnswers says n answers) (h : GivesAnswers says n others) where
  one_alike : OneBy below v which w answers a left → OneBy below v which x others b right → Alike v w x (Same answers others a b left right)
  one_alike (empty look none is l) (empty sees nothing are r) = alike_map (alike_move look sees) (λ e. (none ∙ sym nothing, is ∙ sym are, l ∙ sym r))
  one_alike (empty look none is l) (names u f sees q) = alike_split look sees (came_self w) (taken_came v.post.vcpu which u x f others b right q) (none_named f)
  one_alike (names u f look p) (empty sees none is r) = alike_split look sees (taken_came v.post.vcpu which u w f answers a left p) (came_self x) (λ e. none_named f (sym e))
  one_alike (names u f look p) (names o m sees q) =
      alike_step look sees (taken_came v.post.vcpu which u w f answers a left p) (taken_came v.post.vcpu which o x m others b right q)
      (λ e s. taken_alike says n below v.post.machine w x answers others a b left right g h v.post.vcpu which u f p
      (subst (λ z. Taken below v.post.machine v.post.vcpu which z f x others b right) (sym e) (subst (λ z. Taken below v.post.machine v.post.vcpu which o z x others b right) (sym (up_same f m s)) q)))

pub settled_one_came : {below : Option ℕ} {v w : PortValue} {which : OldWord} {answers : List Bool} {a : Result (Unit {0}) Stop} → SettledOne below v which w answers a → Came v w
settled_one_came p = one_came (one_by p)

pub settled_one_alike : {below : Option ℕ} {v w x : PortValue} {which : OldWord} {answers others : List Bool} {a b : Result (Unit {0}) Stop} (says : ℕ → Bool) (n : ℕ) → GivesAnswers says n answers → GivesAnswers says n others →
    (p : SettledOne below v which w answers a) → (q : SettledOne below v which x others b) → Alike v w x ((answers ≡ others) × (a ≡ b) × (left_one p ≡ left_one q))
settled_one_alike says n g h p q = one_alike says n g h (one_by p) (one_by q)

-- ---- both
pub settled_came : {below : Option ℕ} {v w : PortValue} {answers : List Bool} {a : Result (Unit {0}) Stop} → Settled below v w answers a → Came v w
settled_came (course.first w answers stop one) = one_came (one_by one)
settled_came {v = v} (course.both u w answers more a one two) = came_trans v u w (one_came (one_by one)) (one_came (one_by two))

pub settled_alike : {below : Option ℕ} {v w x : PortValue} {answers others : List Bool} {a b : Result (Unit {0}) Stop} (says : ℕ → Bool) (n : ℕ) → GivesAnswers says n answers → GivesAnswers says n others →
    (p : Settled below v w answers a) → (q : Settled below v x others b) → Alike v w x ((answers ≡ others) × (a ≡ b) × (left_settled p ≡ left_settled q))
settled_alike says n g h (course.first w answers stop one) (course.first x others halt two) = one_alike says n g h (one_by one) (one_by two)
settled_alike says n g h (course.first w answers stop one) (course.both o x others more b two next) =
    alike_apart (came_self w) (one_came (one_by next)) (one_alike says n g (gives_first says n others more h) (one_by one) (one_by two)) (λ e. let s = e.1 in cc)
settled_alike says n g h (course.both u w answers more a one next) (course.first x others halt two) =
    alike_apart (one_came (one_by next)) (came_self x) (one_alike says n (gives_first says n answers more g) h (one_by one) (one_by two)) (λ e. let s = e.1 in cc)
settled_alike says n g h (course.both u w answers more a one next) (course.both o x others asked b two later) =
    alike_then (one_came (one_by one)) (one_came (one_by next)) (one_came (one_by later)) (one_alike says n (gives_first says n answers more g) (gives_first says n others asked h) (one_by one) (one_by two))
    (λ e s. alike_map (one_alike says (asks_on (length answers) n) (gives_rest says n answers more g) (subst (λ z. GivesAnswers says (asks_on (length z) n) asked) (sym s.0) (gives_rest says n others asked h))
    (one_by next) (subst (λ z. OneBy None z Second x asked b (left_one later)) (sym e) (one_by later)))
    (λ k. (ap (λ z. z ++ answers) k.0 ∙ ap (λ z. asked ++ z) s.0, k.1, k.2)))
