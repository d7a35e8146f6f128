-- One word of a stopped vCPU is looked at and emptied.
use Rattle.std.proofs.Common.{◌≡◌, ◌≢◌, ℕ, add-one, ◌+◌, ◌-◌, ◌<◌, ◌≤◌, ◌==◌, nat_le, ◌&&◌, Bool, true, false, List, [], ◌∷◌, length, All, None, Some, Result, Ok, Err, IfOk, IfErr, IsTrue, refl, sym, ap, ◌∙◌, subst, append-nil, inl, inr, arith}
use Rattle.std.proofs.lemmas.List.Elements.{All-cons, All-nil}
use Rattle.std.proofs.lemmas.Bool.{and_parts}
use Rattle.std.proofs.lemmas.Bool.Decides.{nat_tests}
use Rattle.xp_words.specs.Machine.{IsMachine}
use Rattle.xp_words.specs.Places.{Sizes, run_of, sizes_of}
use Rattle.xp_words.specs.declared.place.Place.{Place}
use Rattle.xp_words.specs.declared.place.Place.TheVariants.{Life, Vcpu}
use Rattle.xp_words.specs.declared.reply.Stop.{Stop}
use Rattle.xp_board.specs.Acts.{left_by}
use Rattle.xp_board.specs.ContextSteps.{context_type, named_in}
use Rattle.xp_board.specs.Hands.{brought_name}
use Rattle.xp_board.specs.Readings.{domain_of}
use Rattle.xp_board.specs.Steps.{is_at, left_of, some_since, some_step}
use Rattle.xp_board.specs.Told.{Post, PortValue}
use Rattle.xp_board.specs.declared.holdings.Made.{Made}
use Rattle.xp_board.specs.declared.holdings.TypedReference.{TypedReference}
use Rattle.xp_board.specs.declared.step.Act.TheVariants.{Load, Store}
use Rattle.xp_board.specs.declared.step.StepKind.TheVariants as kinds
use Rattle.xp_board.proofs.StepLists.{between_since, head_or_tail, one_more}
use Rattle.step_maker.specs.Answers.{Deed, Serves, SetsWord, is_told_word, only_if}
use Rattle.step_maker.specs.Holds.{Holds, Rests, Same, still}
use Rattle.step_maker.specs.Moves.{Came, Met, Moves}
use Rattle.step_maker.specs.Pauses.{LeftAs}
use Rattle.step_maker.proofs.Coming.{came_post, came_trans, met_after, met_before, moment_of, moves_came, moves_met}
use Rattle.step_maker.proofs.Piecing.{moves_serves, serves_came, serves_step}
use Rattle.step_maker.proofs.Resting.{same_rests}
use Rattle.flush_words.proofs.Lasting.{came_keeps}
use Rattle.life_words.specs.Names.{MayEmptyWord}
use Rattle.domain_destroy.specs.Asking.{IsDestroyDeed, IsDestroyStop, StopsDestroyer, of_domain}
use Rattle.domain_destroy.specs.Coming.{FoundEmpty}
use Rattle.domain_destroy.specs.Destroying.{PartWent}
use Rattle.domain_destroy.specs.Emptying.{EmptiesWord, HoldsOne, LetsGo, LetsGoHand, NamesNone}
use Rattle.domain_destroy.specs.Emptying as words
use Rattle.domain_destroy.specs.Releasing.{GoesOnDestroying, StopsOnDestroying}
use Rattle.domain_destroy.proofs.Parts.{same_names_none, same_settled}
use Rattle.domain_destroy.proofs.LettingGo.{behind_serves, behind_stops, let_go_settled}
use Rattle.domain_destroy.proofs.Burying.{before_since}

-- ---- when a word may be emptied
zero_since : (z : Sizes) (n : ℕ) (p : Place) (test : ℕ → Bool) (xs : List Made) → IsTrue (some_since z n p test xs) → IsTrue (some_since z 0 p test xs)
unfolding some_step
zero_since z n p test [] h = absurd (cc)
zero_since z n p test (x ∷ xs) h =
    elim (head_or_tail (λ k y. nat_le n k && (is_at z p y && test (left_of y))) x xs h) [
      | inl here ↦
          (let a = and_parts (nat_le n (length xs)) (is_at z p x && test (left_of x)) here in
          let l : nat_le 0 (length xs) ≡ true = grind (arith, nat_tests) in
          rw (l, a.1) refl)
      | inr there ↦ one_more (λ k y. nat_le 0 k && (is_at z p y && test (left_of y))) x xs (zero_since z n p test xs there)
    ]

pub may_empty : (v : PortValue) (d k vcpu : ℕ) → FoundEmpty v.post.machine v.post.vcpu d k v.holdings → vcpu < length v.post.machine.vcpu_domain → domain_of v.post.machine vcpu ≡ d → MayEmptyWord v vcpu
may_empty v d k vcpu y real of =
    let z = sizes_of v.post.machine in
    let t = y.stopped in
    record {
      other = λ own. y.foreign.other (ap (domain_of v.post.machine) (sym own) ∙ of);
      destroys = subst (λ e. IsTrue (some_since z 0 (Life e) (λ w. w == v.post.vcpu + 1) v.holdings.steps)) (sym of) (before_since z t.since (Life d) (λ w. w == v.post.vcpu + 1) v.holdings.steps t.stored);
      stopped = zero_since z t.since (run_of vcpu) (λ w. w == 1) v.holdings.steps (between_since z t.since y.since (run_of vcpu) (λ w. w == 1) v.holdings.steps (t.stopped vcpu real of));
    }

-- more steps
pub may_empty_still : (v w : PortValue) (vcpu : ℕ) → Came v w → MayEmptyWord v vcpu → MayEmptyWord w vcpu
may_empty_still v w vcpu came y =
    let z = sizes_of v.post.machine in
    let destroys : IsTrue (some_since z 0 (Life (domain_of v.post.machine vcpu)) (λ x. x == v.post.vcpu + 1) w.holdings.steps) = came_keeps v w _ came y.destroys in
    let stopped : IsTrue (some_since z 0 (run_of vcpu) (λ x. x == 1) w.holdings.steps) = came_keeps v w _ came y.stopped in
    let post = sym (came_post v w came) in
    record {
      other = subst (λ (p : Post). vcpu ≢ p.vcpu) post y.other;
      destroys = subst (λ (p : Post). IsTrue (some_since (sizes_of p.machine) 0 (Life (domain_of p.machine vcpu)) (λ x. x == p.vcpu + 1) w.holdings.steps)) post destroys;
      stopped = subst (λ (p : Post). IsTrue (some_since (sizes_of p.machine) 0 (run_of vcpu) (λ x. x == 1) w.holdings.steps)) post stopped;
    }

-- ---- the steps
-- what a guest sees where a word is emptied
abbrev pub emptied_deed : ℕ → ℕ → List Deed
emptied_deed vcpu k = only_if (is_told_word k) (SetsWord vcpu k 0)

only_all : (P : Deed → Type 0) (b : Bool) (x : Deed) → P x → All P (only_if b x)
only_all P true x p = All-cons P x [] p (All-nil P)
only_all P false x p = All-nil P

module _ (v : PortValue) (d vcpu k : ℕ) (of : domain_of v.post.machine vcpu ≡ d) where
  deed_is : All (IsDestroyDeed v.post.machine d) (emptied_deed vcpu k)
  deed_is = only_all (IsDestroyDeed v.post.machine d) (is_told_word k) (SetsWord vcpu k 0) (of, refl)

  module _ (a : PortValue) (x : ℕ) (look : Moves v a (Vcpu vcpu k) Load kinds.Look None x) where
    came_a : Came v a
    came_a = moves_came v a (Vcpu vcpu k) Load kinds.Look None x look

    look_serves : (rose : Bool) → Serves v a (of_domain v.post.machine d rose) []
    look_serves rose = moves_serves v a (of_domain v.post.machine d rose) (Vcpu vcpu k) Load kinds.Look None x look tt

    -- found empty
    module _ (none : x ≡ 0) where
      pub look_left : LeftAs (Met v a) (Vcpu vcpu k) (λ w. w == 0)
      unfolding moment_of left_by
      look_left = record { moment = moment_of v (Vcpu vcpu k) Load kinds.Look None x; was = moves_met v a (Vcpu vcpu k) Load kinds.Look None x look; place = refl; passes = rw none refl }

      pub look_went : Rests v → NamesNone v → Same v a → PartWent {A = Unit {0}} v a d (EmptiesWord vcpu k v a [] (Ok tt)) (Ok tt)
      look_went rests clear same =
          record {
            rests = same_rests v a rests same;
            hand = same_settled v a same;
            clear = same_names_none v a same clear;
            serves = record { deeds = []; are = All-nil (IsDestroyDeed v.post.machine d); serves = λ rose rises. look_serves rose };
            stops = tt;
            kinds = tt;
            course = words.empty a (subst (λ y. Moves v a (Vcpu vcpu k) Load kinds.Look None y) none look);
          }

    -- emptied
    module _ (b : PortValue) (y : ℕ) (some : x ≢ 0) (take : Moves a b (Vcpu vcpu k) (Store 0) kinds.Context None y) where
      came_ab : Came a b
      came_ab = moves_came a b (Vcpu vcpu k) (Store 0) kinds.Context None y take

      pub came_b : Came v b
      came_b = came_trans v a b came_a came_ab

      take_serves : (rose : Bool) → Serves v b (of_domain v.post.machine d rose) (emptied_deed vcpu k)
      take_serves rose =
          subst (λ es. Serves v b (of_domain v.post.machine d rose) es) (append-nil (emptied_deed vcpu k))
          (serves_step v a b (of_domain v.post.machine d rose) [] (Vcpu vcpu k) (Store 0) kinds.Context None y (look_serves rose) take (inr (ap Some (sym of))))

      pub take_left : (w : PortValue) → Came b w → LeftAs (Met v w) (Vcpu vcpu k) (λ w. w == 0)
      unfolding moment_of left_by
      take_left w came =
          let m = moment_of a (Vcpu vcpu k) (Store 0) kinds.Context None y in
          record { moment = m; was = met_before v b w m (met_after v a b m came_a (moves_met a b (Vcpu vcpu k) (Store 0) kinds.Context None y take)) came; place = refl; passes = refl }

      pub named_left : (w : PortValue) (answer : Result (Unit {0}) Stop) → GoesOnDestroying b w answer → IfOk answer (λ done. LeftAs (Met v w) (Vcpu vcpu k) (λ w. w == 0))
      named_left w (Ok done) serves = take_left w (serves_came b w (of_domain b.post.machine d true) _ (serves d true (λ due. refl)))
      named_left w (Err e) serves = tt

      -- it named none meanwhile
      module _ (rests : Rests v) (clear : NamesNone v) (same : Same v a) (holds : Holds a b (named_in k y a.holdings)) (none : y ≡ 0) where
        same_b : Same v b
        same_b = subst (λ z. Holds a b (named_in k z a.holdings)) none holds ∙ same

        pub meanwhile_went : PartWent {A = Unit {0}} v b d (EmptiesWord vcpu k v b [] (Ok tt)) (Ok tt)
        meanwhile_went =
            record {
              rests = same_rests v b rests same_b;
              hand = same_settled v b same_b;
              clear = same_names_none v b same_b clear;
              serves = record { deeds = emptied_deed vcpu k; are = deed_is; serves = λ rose rises. take_serves rose };
              stops = tt;
              kinds = tt;
              course = words.meanwhile a b x look some (subst (λ z. Moves a b (Vcpu vcpu k) (Store 0) kinds.Context None z) none take);
            }

      -- it named a frame
      module _ (rests : Rests v) (clear : NamesNone v) (same : Same v a) (holds : Holds a b (named_in k y a.holdings)) (named : y ≢ 0) (inside : y ≤ a.post.machine.frames) where
        next : y ≡ (y - 1) + 1
        next = omega (arith, named)

        abbrev reference : TypedReference
        reference = brought_name (y - 1) (context_type k) a.holdings

        typed_hand : Holds a b (record a.holdings { typed = reference ∷ a.holdings.typed })
        typed_hand = subst (λ z. Holds a b (named_in k z a.holdings)) (next ∙ add-one (y - 1)) holds

        hand_b : Holds v b (record v.holdings { typed = reference ∷ [] })
        hand_b =
            typed_hand ∙ ap (λ (q : PortValue). still (record q { holdings = record q.holdings { typed = reference ∷ q.holdings.typed } })) same
            ∙ ap (λ ys. still (record v { holdings = record v.holdings { typed = reference ∷ ys } })) rests.empty.typed

        post_b : b.post ≡ v.post
        post_b = ap (λ (q : PortValue). q.post) hand_b

        pub named_one : HoldsOne b (y - 1)
        named_one =
            record {
              may = record {
                running = ap (λ (q : PortValue). q.holdings.run) hand_b ∙ rests.may.running;
                no_walk = ap (λ (q : PortValue). q.holdings.walk) hand_b ∙ rests.may.no_walk;
                machine = subst (λ (p : Post). IsMachine p.machine) (sym post_b) rests.may.machine;
              };
              frame = let same_frames = ap (λ (q : PortValue). q.post.machine.frames) typed_hand in omega (arith, same_frames, inside, named);
              reference = reference;
              typed = ap (λ (q : PortValue). q.holdings.typed) hand_b;
              of = refl;
              others = record {
                refs = ap (λ (q : PortValue). q.holdings.refs) hand_b ∙ rests.empty.refs;
                typed = refl;
                works = ap (λ (q : PortValue). q.holdings.works) hand_b ∙ rests.empty.works;
                locks = ap (λ (q : PortValue). q.holdings.locks) hand_b ∙ rests.empty.locks;
                ending = ap (λ (q : PortValue). q.holdings.ending) hand_b ∙ rests.empty.ending;
                claimed = ap (λ (q : PortValue). q.holdings.claimed) hand_b ∙ rests.empty.claimed;
                raised = ap (λ (q : PortValue). q.holdings.raised) hand_b ∙ rests.empty.raised;
                credits = ap (λ (q : PortValue). q.holdings.credits) hand_b ∙ rests.empty.credits;
                looking = ap (λ (q : PortValue). q.holdings.looking) hand_b ∙ rests.empty.looking;
              };
            }

        module _ (w : PortValue) (answer : Result (Unit {0}) Stop) (rests_w : Rests w) (goes : LetsGoHand b w) (serves : GoesOnDestroying b w answer) where
          pub named_went : IfOk answer (λ done. NamesNone w) → IfErr answer (λ e. StopsOnDestroying b w e) → IfErr answer IsDestroyStop → (answers : List Bool) → LetsGo (y - 1) b w answers answer →
              PartWent v w d (EmptiesWord vcpu k v w answers answer) answer
          named_went clear_w stops is answers course =
              record {
                rests = rests_w;
                hand = let_go_settled v b w (reference ∷ []) rests.empty.typed hand_b goes;
                clear = clear_w;
                serves = behind_serves v b w d (emptied_deed vcpu k) answer deed_is take_serves serves;
                stops = stops_by answer stops is;
                kinds = is;
                course = words.named a b w x (y - 1) answers answer look some (subst (λ z. Moves a b (Vcpu vcpu k) (Store 0) kinds.Context None z) next take) course;
              }
            where
              stops_by : (r : Result (Unit {0}) Stop) → IfErr r (λ e. StopsOnDestroying b w e) → IfErr r IsDestroyStop → IfErr r (λ e. StopsDestroyer v w d e)
              stops_by (Ok done) stops is = tt
              stops_by (Err e) stops is = behind_stops v b w d e came_b is stops
