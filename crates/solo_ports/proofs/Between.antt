-- Words that are told at ports on the way of a call: lives, and own words before they are set.
use Rattle.std.proofs.Common.{◌≡◌, ℕ, Bool, true, false, List, [], ◌∷◌, ◌++◌, Option, Some, None, refl, sym, ap, ◌∙◌, subst, inl, inr, if◌then◌else◌}
use Rattle.xp_words.specs.Machine.{Machine}
use Rattle.xp_words.specs.declared.place.Place.{Place}
use Rattle.xp_words.specs.declared.place.Place.TheVariants.{Life, Vcpu}
use Rattle.xp_board.specs.declared.holdings.Holdings.{Holdings}
use Rattle.xp_board.specs.declared.step.Act.{Act}
use Rattle.xp_board.specs.declared.step.Act.TheVariants.{Load, Cas, Store, Add, Max}
use Rattle.xp_board.specs.declared.step.Mark.{Mark}
use Rattle.xp_board.specs.declared.step.StepKind.{StepKind}
use Rattle.xp_board.specs.declared.step.StepKind.TheVariants as steps
use Rattle.xp_board.specs.Acts.{left_by}
use Rattle.xp_board.specs.Legal.{LegalAs}
use Rattle.xp_board.specs.Lists.{EachOf}
use Rattle.xp_board.specs.Marks.{after_mark}
use Rattle.xp_board.specs.Told.{PortValue, is_telling, told_word}
use Rattle.xp_board.proofs.PlaceTests.{same_or_other}
use Rattle.step_maker.specs.Answers.{Deed, Serves, SetsWord, deeds, deeds_by, is_told_word, marked_by, stored_as}
use Rattle.step_maker.specs.Asked.{Request}
use Rattle.step_maker.specs.Finding.{Finding}
use Rattle.step_maker.specs.Moves.{Came, Met, Moment, Moves, MovesBy, Ran}
use Rattle.step_maker.specs.Reasons.{HasReason}
use Rattle.step_maker.proofs.Coming.{came_trans, ran_more}
use Rattle.step_maker.proofs.Piecing.{deeds_append}
use Rattle.step_maker.proofs.Telling.{came_telling, moves_telling, ran_telling, told_elsewhere, told_here, told_there}
use Rattle.course_laws.specs.Courses.{FindsAlive}
use Rattle.solo_ports.proofs.Prefixes.{on_way, one_run}

-- ---- a word that no step on the way changes
abbrev IsStill : (Moment → Type 0) → Place → Type 0
IsStill P q = (u x : PortValue) (m : Moment) → MovesBy u x m → q ≡ m.place → P m → left_by m.act m.found ≡ m.found

ran_still : (P : Moment → Type 0) (q : Place) → IsStill P q → (v u : PortValue) (ms : List Moment) → is_telling v ≡ true → Ran v ms u → EachOf P ms → told_word u q ≡ told_word v q
unfolding EachOf
ran_still P q still v u [] telling ran each = ap (λ (y : PortValue). told_word y q) ran
ran_still P q still v u (m ∷ ms) telling ran each =
    let x = ran.0 in
    let by = ran.2 in
    let tells : is_telling x ≡ true = ran_telling v x ms ran.1 ∙ telling in
    elim (same_or_other q m.place) [
      | inl here ↦
          ap (told_word u) here ∙ told_here x u m.place m.act m.kind m.mark m.found by.moves tells ∙ still x u m by here each.0
          ∙ sym (told_there x u m.place m.act m.kind m.mark m.found by.moves tells) ∙ ap (told_word x) (sym here) ∙ ran_still P q still v x ms telling ran.1 each.1
      | inr off ↦ told_elsewhere x u m.place m.act m.kind m.mark m.found by.moves q off ∙ ran_still P q still v x ms telling ran.1 each.1
    ]

each_before : (P : Moment → Type 0) (xs ys : List Moment) → EachOf P (ys ++ xs) → EachOf P xs
unfolding EachOf
each_before P xs [] each = each
each_before P xs (y ∷ ys) each = each_before P xs ys each.1

by_came : (u x : PortValue) (m : Moment) → MovesBy u x m → Came u x
unfolding Came
by_came u x m by = (m ∷ [], (u, refl, by))

-- ---- lives
module _ (n : Machine) (s : ℕ) (r : Request) (F : Finding) (d : ℕ) (spares : r.destroys ≡ None) where
  never : r.destroys ≡ Some d → ⊥
  never is = let e = sym spares ∙ is in cc

  life_act : (a : Act) (x : ℕ) (h : Holdings) → HasReason n s r F (Life d) a x h → left_by a x ≡ x
  unfolding left_by
  life_act Load x h why = refl
  life_act (Cas e w) x h why = absurd (never why)
  life_act (Store w) x h why = absurd (never why)
  life_act (Add w) x h why = absurd (never why)
  life_act (Max w) x h why = absurd (never why)

  life_still : IsStill (λ m. HasReason n s r F m.place m.act m.found m.hand) (Life d)
  life_still u x m by here why = life_act m.act m.found m.hand (subst (λ p. HasReason n s r F p m.act m.found m.hand) (sym here) why)

module _ (v w : PortValue) (r : Request) (ds : List Deed) (telling : is_telling v ≡ true) (serves : Serves v w r ds) (d : ℕ) (spares : r.destroys ≡ None) where
  pub life_between : (u : PortValue) → Came v u → Came u w → told_word u (Life d) ≡ told_word v (Life d)
  unfolding Serves
  life_between u before after =
      let F = Met v w in
      let way = on_way v u w serves.0 serves.1.ran before after in
      ran_still (λ m. HasReason v.post.machine v.post.vcpu r F m.place m.act m.found m.hand) (Life d) (life_still v.post.machine v.post.vcpu r F d spares) v u way.before telling way.to
      (each_before (λ m. HasReason v.post.machine v.post.vcpu r F m.place m.act m.found m.hand) way.before way.after
      (subst (EachOf (λ m. HasReason v.post.machine v.post.vcpu r F m.place m.act m.found m.hand)) way.all serves.1.reasons))

  -- each step finds the domain alive
  pub finds_alive : told_word v (Life d) ≡ 0 → FindsAlive v w d
  finds_alive alive m met at =
      let tells : is_telling met.from ≡ true = came_telling v met.from met.before ∙ telling in
      sym (told_there met.from met.to m.place m.act m.kind m.mark m.found met.moved.moves tells) ∙ ap (told_word met.from) at
      ∙ life_between met.from met.before (came_trans met.from met.to w (by_came met.from met.to m met.moved) met.after) ∙ alive

-- ---- own words
module _ (n : Machine) (s t k : ℕ) (b h : Holdings) (mark : Option Mark) where
  no_exchange : (e w : ℕ) (by : StepKind) → LegalAs n s b (Vcpu t k) (Cas e w) mark by → ⊥
  no_exchange e w steps.Look legal = legal
  no_exchange e w by legal = absurd legal

  no_sum : (w : ℕ) (by : StepKind) → LegalAs n s b (Vcpu t k) (Add w) mark by → ⊥
  no_sum w steps.Look legal = legal
  no_sum w by legal = absurd legal

  is_ask : (w : ℕ) (by : StepKind) → LegalAs n s b (Vcpu t k) (Max w) mark by → k ≡ 4
  is_ask w steps.Ask legal = legal.0
  is_ask w by legal = absurd legal

  some_deed : (o : Bool) (d : Deed) → o ≡ true → (if o then (d ∷ []) else []) ≡ [] → ⊥
  some_deed true d on none = cc
  some_deed false d on none = absurd cc

  store_told : (x w : ℕ) (by : StepKind) → is_told_word k ≡ true → stored_as by (Vcpu t k) x w h ≡ [] → ⊥
  store_told x w steps.Guest told none = some_deed (is_told_word k) (SetsWord t k w) told none
  store_told x w by told none = some_deed (is_told_word k) (SetsWord t k w) told none

  untold_ask : k ≡ 4 → is_told_word k ≡ true → ⊥
  untold_ask is told = let e = sym (ap is_told_word is) ∙ told in absurd cc

  word_act : (a : Act) (x : ℕ) (by : StepKind) → is_told_word k ≡ true → LegalAs n s b (Vcpu t k) a mark by → deeds_by (Vcpu t k) a by x h ≡ [] → left_by a x ≡ x
  unfolding left_by
  word_act Load x by told legal none = refl
  word_act (Cas e w) x by told legal none = absurd (no_exchange e w by legal)
  word_act (Store w) x by told legal none = absurd (store_told x w by told none)
  word_act (Add w) x by told legal none = absurd (no_sum w by legal)
  word_act (Max w) x by told legal none = absurd (untold_ask (is_ask w by legal) told)

abbrev IsUnseen : Moment → Type 0
IsUnseen m = deeds_by m.place m.act m.kind m.found m.hand ≡ []

word_still : (s k : ℕ) → is_told_word k ≡ true → IsStill IsUnseen (Vcpu s k)
word_still s k told u x m by here none =
    let b = after_mark u.post.machine m.mark u.holdings in
    word_act u.post.machine u.post.vcpu s k b m.hand m.mark m.act m.found m.kind told
    (subst (λ p. LegalAs u.post.machine u.post.vcpu b p m.act m.mark m.kind) (sym here) by.moves.may.act) (subst (λ p. deeds_by p m.act m.kind m.found m.hand ≡ []) (sym here) none)

first_none : {A : Type 0} (xs ys : List A) → xs ++ ys ≡ [] → xs ≡ []
first_none [] ys none = refl
first_none (x ∷ xs) ys none = absurd cc

second_none : {A : Type 0} (xs ys : List A) → xs ++ ys ≡ [] → ys ≡ []
second_none [] ys none = none
second_none (x ∷ xs) ys none = absurd cc

unseen : (ms : List Moment) → deeds ms ≡ [] → EachOf IsUnseen ms
unfolding EachOf
unseen [] none = tt
unseen (m ∷ ms) none =
    let d = deeds_by m.place m.act m.kind m.found m.hand in
    let rest = second_none (marked_by m.mark) (d ++ deeds ms) none in
    (first_none d (deeds ms) rest, unseen ms (second_none d (deeds ms) rest))

last_one : (xs ys : List Deed) (d e : Deed) → xs ++ (d ∷ ys) ≡ e ∷ [] → ys ≡ []
last_one [] ys d e is = cc
last_one (x ∷ []) ys d e is = absurd cc
last_one (x ∷ (y ∷ xs)) ys d e is = absurd cc

only_word : (o : Bool) (d : Deed) → o ≡ true → (if o then (d ∷ []) else []) ≡ d ∷ []
only_word true d on = refl
only_word false d on = absurd cc

first_one : (xs ys : List Deed) (d e : Deed) → xs ++ (d ∷ ys) ≡ e ∷ [] → xs ≡ []
first_one [] ys d e is = refl
first_one (x ∷ []) ys d e is = absurd cc
first_one (x ∷ (y ∷ xs)) ys d e is = absurd cc

-- A word that one step sets, and that step alone, is before it as at first, and behind it as that step leaves it.
module _ (v w : PortValue) (r : Request) (s k y : ℕ) (telling : is_telling v ≡ true) (told : is_told_word k ≡ true) (serves : Serves v w r (SetsWord s k y ∷ [])) where
  module _ (u x : PortValue) (old : ℕ) (before : Came v u) (m : Moves u x (Vcpu s k) (Store y) steps.Context None old) (after : Came x w) where
    abbrev one : Moment
    one = record { place = Vcpu s k; act = Store y; kind = steps.Context; mark = None; found = old; hand = u.holdings }

    here : (first rest : List Moment) → Ran v first u → Ran x rest w → deeds rest ++ (SetsWord s k y ∷ deeds first) ≡ SetsWord s k y ∷ []
    unfolding Serves
    here first rest to from =
        let all = one_run v w serves.0 (rest ++ (one ∷ first)) serves.1.ran (ran_more v x w (one ∷ first) rest (ran_more v u x first (one ∷ []) to (u, refl, record { moves = m; hand = refl })) from) in
        ap (λ ds. deeds rest ++ (ds ++ deeds first)) (sym (only_word (is_told_word k) (SetsWord s k y) told)) ∙ (sym (deeds_append (one ∷ first) rest) ∙ sym (ap deeds all) ∙ serves.1.deeds_are)

    pub word_before : told_word u (Vcpu s k) ≡ told_word v (Vcpu s k)
    unfolding Came
    word_before =
        ran_still IsUnseen (Vcpu s k) (word_still s k told) v u before.0 telling before.1
        (unseen before.0 (last_one (deeds after.0) (deeds before.0) (SetsWord s k y) (SetsWord s k y) (here before.0 after.0 before.1 after.1)))

    pub word_after : told_word w (Vcpu s k) ≡ y
    unfolding Came left_by
    word_after =
        let told_u : is_telling u ≡ true = came_telling v u before ∙ telling in
        ran_still IsUnseen (Vcpu s k) (word_still s k told) x w after.0 (moves_telling u x _ _ _ _ _ m ∙ told_u) after.1
        (unseen after.0 (first_one (deeds after.0) (deeds before.0) (SetsWord s k y) (SetsWord s k y) (here before.0 after.0 before.1 after.1)))
        ∙ told_here u x (Vcpu s k) (Store y) steps.Context None old m told_u
