-- A live table that a destruction lets go: it is released, or the gate pauses that.
use Rattle.std.proofs.Common.{◌≡◌, ◌≢◌, ◌⊎◌, ℕ, ◌+◌, ◌<◌, ◌≤◌, Bool, true, List, None, Result, Ok, Err, refl, sym, ap, ◌∙◌, subst, inl, inr, arith}
use Rattle.xp_words.specs.KindWords.{kind_fields}
use Rattle.xp_words.specs.Machine.{IsMachine}
use Rattle.xp_words.specs.declared.place.Place.{Place}
use Rattle.xp_words.specs.declared.place.Place.TheVariants.{Kind}
use Rattle.xp_words.specs.declared.reply.Pause.TheVariants.{Due}
use Rattle.xp_words.specs.declared.reply.Stop.{Stop}
use Rattle.xp_words.specs.declared.reply.Stop.TheVariants.{Paused}
use Rattle.xp_board.specs.Acts.{left_by}
use Rattle.xp_board.specs.KindSteps.{Live, Partial, form_of}
use Rattle.xp_board.specs.Told.{Post, PortValue, is_telling, told_word}
use Rattle.xp_board.specs.declared.step.Act.{Act}
use Rattle.xp_board.specs.declared.step.Act.TheVariants.{Load, Store}
use Rattle.xp_board.specs.declared.step.StepKind.{StepKind}
use Rattle.xp_board.specs.declared.step.StepKind.TheVariants as kinds
use Rattle.xp_board.proofs.PlaceTests.{same_or_other}
use Rattle.step_maker.specs.Moves.{Came, Moves}
use Rattle.step_maker.specs.Plain.{Leaves}
use Rattle.step_maker.proofs.Coming.{came_post, came_trans, moves_came}
use Rattle.step_maker.proofs.Telling.{load_tells, moves_telling, told_elsewhere, told_here, told_there}
use Rattle.course_laws.proofs.Awaiting.{AloneStays, NeitherLostNorBusy}
use Rattle.partial_state.specs.Levels.{level_type}
use Rattle.table_words.specs.OldWords.{old_place}
use Rattle.table_words.specs.declared.old_words.OldWord.TheVariants.{First, Second}
use Rattle.table_law.specs.Plain.{Describes, Plain}
use Rattle.table_law.specs.Release.{let_go}
use Rattle.level_release.specs.Course as course
use Rattle.level_release.specs.Course.{ReleasedWithin, Settled, SettledOne, WasReleased}
use Rattle.release_laws.specs.Pauses.{IsLeft}
use Rattle.release_laws.proofs.Settling.{second_none}
use Rattle.domain_destroy.specs.Emptying.{LetsGo}
use Rattle.turn_measures.proofs.Naming.{released_away, released_cut}
use Rattle.solo_ports.specs.Standing.{IsUnkept}
use Rattle.solo_ports.proofs.Unkept.{unkept_let_go}
use Rattle.solo_deaths.specs.Between.{Between, PartComes, Within}
use Rattle.solo_deaths.proofs.Given.{PausedReleaseLeaves, ReleaseLeaves}
use Rattle.solo_deaths.proofs.Gated.{released_due}
use Rattle.solo_deaths.proofs.Standing.{between_by, between_looks, telling}

not_live : Partial ≡ Live → ⊥
not_live e = cc

-- a second word that names none takes one look
second_came : (u w : PortValue) (more : List Bool) (answer : Result (Unit {0}) Stop) → is_telling u ≡ true → told_word u (old_place u.post.vcpu Second) ≡ 0 → SettledOne None u Second w more answer → Came u w
second_came u _ _ _ telling none (course.SettledOne.none w look) = moves_came u w _ _ _ _ _ look
second_came u _ _ _ telling none (course.SettledOne.live d e g w h y answers answer look store seen form rel) = absurd (let k = told_there u d _ _ _ _ _ look telling in let l = none in omega arith)
second_came u _ _ _ telling none (course.SettledOne.partial d e g x w h y answers answer look store seen form take goes) = absurd (let k = told_there u d _ _ _ _ _ look telling in let l = none in omega arith)
second_came u _ _ _ telling none (course.SettledOne.lost d e g x w h y found look store seen form take off again) = absurd (let k = told_there u d _ _ _ _ _ look telling in let l = none in omega arith)
second_came u _ _ _ telling none (course.SettledOne.busy d e g w h y look store seen unlive whole again) = absurd (let k = told_there u d _ _ _ _ _ look telling in let l = none in omega arith)

module _ (stays : AloneStays) (neither : NeitherLostNorBusy) (leaves_plain : ReleaseLeaves) (leaves_rest : PausedReleaseLeaves) (o : Post) (machine : IsMachine o.machine) (a : PortValue) (p : Plain) (b : Between o a p) (f level : ℕ) (inside : f < o.machine.frames) (low : 1 ≤ level) (high : level ≤ 4)
    (word : ℕ) (is : told_word a (Kind f) ≡ word) (live : (kind_fields word).validated ≡ true) (of : (kind_fields word).kind ≡ level_type level) where
  abbrev q : Plain
  q = let_go level f p

  abbrev first : Place
  first = old_place o.vcpu First

  unkept : IsUnkept o.machine q
  unkept = unkept_let_go o.machine level f p b.unkept

  -- ---- behind the name
  module _ (c : PortValue) (named : Moves a c first (Store (f + 1)) kinds.Context None 0) where
    telling_c : is_telling c ≡ true
    telling_c = moves_telling a c _ _ _ _ _ named ∙ telling stays o a p b

    named_c : told_word c first ≡ f + 1
    unfolding left_by
    named_c = told_here a c _ _ _ _ _ named (telling stays o a p b)

    post_c : c.post ≡ o
    post_c = came_post a c (moves_came a c _ _ _ _ _ named) ∙ b.post

    place_c : old_place c.post.vcpu First ≡ first
    place_c = ap (λ (y : Post). old_place y.vcpu First) post_c

    -- the word is taken again, and the frame's kind word looked at
    module _ (d e g : PortValue) (h y : ℕ) (look : Moves c d first Load kinds.Look None (h + 1)) (store : Moves d e first (Store 0) kinds.Context None (h + 1)) (seen : Moves e g (Kind h) Load kinds.Look None y) where
      same : h ≡ f
      same = let k = told_there c d _ _ _ _ _ look telling_c in let l = named_c in omega arith

      telling_d : is_telling d ≡ true
      telling_d = moves_telling c d _ _ _ _ _ look ∙ telling_c

      telling_e : is_telling e ≡ true
      telling_e = moves_telling d e _ _ _ _ _ store ∙ telling_d

      came_e : Came a e
      came_e = came_trans a d e (came_trans a c d (moves_came a c _ _ _ _ _ named) (moves_came c d _ _ _ _ _ look)) (moves_came d e _ _ _ _ _ store)

      back_by : (r : Place) → (r ≡ first) ⊎ (r ≢ first) → told_word e r ≡ told_word a r
      unfolding left_by
      back_by r (inl at) = ap (told_word e) at ∙ told_here d e _ _ _ _ _ store telling_d ∙ sym b.first ∙ ap (told_word a) (sym at)
      back_by r (inr off) = told_elsewhere d e _ _ _ _ _ store r off ∙ load_tells c d _ _ _ _ look telling_c r ∙ told_elsewhere a c _ _ _ _ _ named r off

      back : Leaves e (told_word a)
      back r = back_by r (same_or_other r first)

      between_e : Between o e p
      between_e = between_by stays o a p b e (told_word a) p came_e back (λ s k. refl) b.frames b.unkept

      between_g : Between o g p
      between_g = between_looks stays o e p between_e g _ _ _ _ seen

      word_is : y ≡ word
      word_is = sym (told_there e g _ _ _ _ _ seen telling_e) ∙ back (Kind h) ∙ ap (λ j. told_word a (Kind j)) same ∙ is

      form_is : form_of (kind_fields y) ≡ Live
      form_is = ap (λ z. form_of (kind_fields z)) word_is ∙ rw live refl

      kind_is : (kind_fields y).kind ≡ level_type level
      kind_is = ap (λ z. (kind_fields z).kind) word_is ∙ of

      -- ---- its release
      released : (w : PortValue) (answers : List Bool) (answer : Result (Unit {0}) Stop) → ReleasedWithin None g h (kind_fields y).kind w answers answer → PartComes o w q answer
      released w answers answer rel = by_answer answer (subst (λ t. WasReleased g f t w answers answer) kind_is (subst (λ j. ReleasedWithin None g j (kind_fields y).kind w answers answer) same rel))
        where
          telling_g : is_telling g ≡ true
          telling_g = telling stays o g p between_g

          inside_g : f < g.post.machine.frames
          inside_g = subst (λ (z : Post). f < z.machine.frames) (sym between_g.post) inside

          frames_g : Describes g.post.machine (told_word g) p
          frames_g = subst (λ (z : Post). Describes z.machine (told_word g) p) (sym between_g.post) between_g.frames

          machine_g : IsMachine g.post.machine
          machine_g = subst (λ (z : Post). IsMachine z.machine) (sym between_g.post) machine

          done : WasReleased g f (level_type level) w answers (Ok tt) → Between o w q
          done r =
              let away = released_away None g f (level_type level) w answers (Ok tt) refl r in
              record {
                post = came_post g w away.came ∙ between_g.post;
                alone = stays g w between_g.alone away.came;
                first = away.same o.vcpu 2 ∙ between_g.first;
                second = away.same o.vcpu 3 ∙ between_g.second;
                frames = subst (λ (z : Post). Describes z.machine (told_word w) q) between_g.post (leaves_plain g w f level answers p machine_g telling_g inside_g high frames_g r);
                unkept = unkept;
              }

          paused : (stop : Stop) → WasReleased g f (level_type level) w answers (Err stop) → (stop ≡ Paused Due) × Within o w q
          paused stop r =
              let due = released_due stays neither None g f (level_type level) w answers (Err stop) stop refl between_g.alone r in
              let names = (released_cut None g f (level_type level) w answers (Err stop) (ap (λ (z : Stop). Err z) due) telling_g r).renames in (
                due,
                record {
                  post = came_post g w names.came ∙ between_g.post;
                  alone = stays g w between_g.alone names.came;
                  frame = f;
                  level = level;
                  second = subst (λ (z : Post). told_word w (old_place z.vcpu Second) ≡ told_word g (old_place z.vcpu Second)) between_g.post (names.others 3 (λ e. omega (arith, e))) ∙ between_g.second;
                  left = subst (λ (z : Post). IsLeft z.machine w f level q) between_g.post (leaves_rest g w f level answers p telling_g inside_g high frames_g (subst (λ z. WasReleased g f (level_type level) w answers (Err z)) due r));
                  unkept = unkept;
                },
              )

          by_answer : (answer : Result (Unit {0}) Stop) → WasReleased g f (level_type level) w answers answer → PartComes o w q answer
          by_answer (Ok done_is) r = done r
          by_answer (Err stop) r = paused stop r

    -- ---- the first old word
    here : (x y : PortValue) (act : Act) (how : StepKind) (found : ℕ) → Moves x y (old_place c.post.vcpu First) act how None found → Moves x y first act how None found
    here x y act how found m = subst (λ r. Moves x y r act how None found) place_c m

    one : (u : PortValue) (answers : List Bool) (answer : Result (Unit {0}) Stop) → SettledOne None c First u answers answer → PartComes o u q answer
    one _ _ _ (course.SettledOne.none w look) = absurd (let k = told_there c w _ _ _ _ _ (here c w Load kinds.Look 0 look) telling_c in let l = named_c in omega arith)
    one _ _ _ (course.SettledOne.live d e g w h y answers answer look store seen form rel) =
        released d e g h y (here c d Load kinds.Look (h + 1) look) (here d e (Store 0) kinds.Context (h + 1) store) seen w answers answer rel
    one _ _ _ (course.SettledOne.partial d e g x w h y answers answer look store seen form take goes) =
        absurd (not_live (sym form ∙ form_is d e g h y (here c d Load kinds.Look (h + 1) look) (here d e (Store 0) kinds.Context (h + 1) store) seen))
    one _ _ _ (course.SettledOne.lost d e g x w h y found look store seen form take off again) =
        absurd (not_live (sym form ∙ form_is d e g h y (here c d Load kinds.Look (h + 1) look) (here d e (Store 0) kinds.Context (h + 1) store) seen))
    one _ _ _ (course.SettledOne.busy d e g w h y look store seen unlive whole again) =
        absurd (unlive (form_is d e g h y (here c d Load kinds.Look (h + 1) look) (here d e (Store 0) kinds.Context (h + 1) store) seen))

    -- ---- and the second
    second_by : (u w : PortValue) (more : List Bool) (answer : Result (Unit {0}) Stop) → Between o u q → SettledOne None u Second w more answer → PartComes o w q answer
    second_by u w more answer bu two =
        let at = subst (λ (y : Post). told_word u (old_place y.vcpu Second) ≡ 0) (sym bu.post) bu.second in
        let none = second_none u (telling stays o u q bu) at w more answer two in
        subst (PartComes o w q) (sym none.0)
        (between_by stays o u q bu w (told_word u) q (second_came u w more answer (telling stays o u q bu) at two) none.1 (λ s k. refl) bu.frames bu.unkept)

    both : (w : PortValue) (answers : List Bool) (answer : Result (Unit {0}) Stop) → Settled None c w answers answer → PartComes o w q answer
    both _ _ _ (course.Settled.first w answers stop first_one) = one w answers (Err stop) first_one
    both _ _ _ (course.Settled.both u w answers more answer first_one two) = second_by u w more answer (one u answers (Ok tt) first_one) two

  pub lets_go : (w : PortValue) (answers : List Bool) (answer : Result (Unit {0}) Stop) → LetsGo f a w answers answer → PartComes o w q answer
  lets_go w answers answer goes = both goes.0 (subst (λ r. Moves a goes.0 r (Store (f + 1)) kinds.Context None 0) (ap (λ (y : Post). old_place y.vcpu First) b.post) goes.1) w answers answer goes.2
