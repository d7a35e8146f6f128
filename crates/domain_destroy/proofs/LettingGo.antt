-- What is released through the first own old word, behind other steps of a destruction.
use Rattle.std.proofs.Common.{◌≡◌, ℕ, ◌+◌, ◌<◌, Bool, List, [], All, None, Some, Result, Ok, Err, IfErr, refl, sym, ap, ◌∙◌, subst, append-nil, rules, inl, arith}
use Rattle.xp_words.specs.Machine.{IsMachine, Machine}
use Rattle.xp_words.specs.declared.reply.Stop.{Stop}
use Rattle.xp_board.specs.Hands.{typed_to, without_typed}
use Rattle.xp_board.specs.Told.{Post, PortValue}
use Rattle.xp_board.specs.declared.holdings.TypedReference.{TypedReference}
use Rattle.xp_board.specs.declared.step.Act.TheVariants.{Store}
use Rattle.xp_board.specs.declared.step.StepKind.TheVariants as kinds
use Rattle.step_maker.specs.Answers.{Deed, Serves, Stops, misses}
use Rattle.step_maker.specs.Asked.{Implies, Within}
use Rattle.step_maker.specs.Finding.{Finding}
use Rattle.step_maker.specs.Holds.{Holds, Rests, still}
use Rattle.step_maker.specs.Moves.{Came, Met, Moment, Moves}
use Rattle.step_maker.proofs.Coming.{came_post, met_after, moves_came}
use Rattle.step_maker.proofs.Grown.{grown_by, implied}
use Rattle.step_maker.proofs.Later.{stops_later, stops_then}
use Rattle.step_maker.proofs.Piecing.{moves_serves, serves_came, serves_inner, serves_then}
use Rattle.kind_words.proofs.KindHands.{typed_held}
use Rattle.kind_words.proofs.Leaving.{without_newest}
use Rattle.table_words.specs.OldWords.{kept_in_old, old_place}
use Rattle.table_words.specs.declared.old_words.OldWord.TheVariants.{First}
use Rattle.level_release.specs.Asking.{IsReleaseEnd, is_due_answer, of_settle}
use Rattle.level_release.specs.Settling.{SettledHand}
use Rattle.level_release.proofs.Answered.{end_uncounted}
use Rattle.domain_destroy.specs.Asking.{IsDestroyDeed, IsDestroyStop, ServesDestroy, StopsDestroyer, of_domain}
use Rattle.domain_destroy.specs.Emptying.{HoldsOne, LetsGoHand}
use Rattle.domain_destroy.proofs.Parts.{destroy_uncounted}
use Rattle.domain_destroy.specs.Releasing.{GoesOnDestroying, StopsOnDestroying}

-- ---- the word is put
module _ {u : PortValue} {f : ℕ} (holds : HoldsOne u f) where
  pub one_held : 0 < typed_to f u.holdings.typed
  one_held = subst (λ ys. 0 < typed_to f ys) (sym holds.typed) (typed_held f holds.reference [] holds.of)

  none_left : without_typed f u.holdings.typed ≡ []
  none_left = without_newest (λ (y : TypedReference). y.frame) f holds.reference [] u.holdings.typed holds.of holds.typed

  module _ (a : PortValue) (put : Holds u a (kept_in_old First f u.holdings)) where
    put_hand : Holds u a (record u.holdings { typed = []; old0 = Some (f + 1) })
    put_hand = put ∙ ap (λ ys. still (record u { holdings = record u.holdings { typed = ys; old0 = Some (f + 1) } })) none_left

    pub put_rests : Rests a
    put_rests =
        record {
          may = record {
            running = ap (λ (q : PortValue). q.holdings.run) put ∙ holds.may.running;
            no_walk = ap (λ (q : PortValue). q.holdings.walk) put ∙ holds.may.no_walk;
            machine = subst (λ (p : Post). IsMachine p.machine) (sym (ap (λ (q : PortValue). q.post) put)) holds.may.machine;
          };
          empty = record {
            refs = ap (λ (q : PortValue). q.holdings.refs) put_hand ∙ holds.others.refs;
            typed = ap (λ (q : PortValue). q.holdings.typed) put_hand;
            works = ap (λ (q : PortValue). q.holdings.works) put_hand ∙ holds.others.works;
            locks = ap (λ (q : PortValue). q.holdings.locks) put_hand ∙ holds.others.locks;
            ending = ap (λ (q : PortValue). q.holdings.ending) put_hand ∙ holds.others.ending;
            claimed = ap (λ (q : PortValue). q.holdings.claimed) put_hand ∙ holds.others.claimed;
            raised = ap (λ (q : PortValue). q.holdings.raised) put_hand ∙ holds.others.raised;
            credits = ap (λ (q : PortValue). q.holdings.credits) put_hand ∙ holds.others.credits;
            looking = ap (λ (q : PortValue). q.holdings.looking) put_hand ∙ holds.others.looking;
          };
        }

-- ---- what is asked
module _ (n : Machine) (s d : ℕ) (answer : Result (Unit {0}) Stop) (rose : Bool) (F G : Finding) (more : (m : Moment) → F m → G m) where
  settles_within : Implies (is_due_answer answer) rose → Within n s (of_settle d d answer) F (of_domain n d rose) G
  settles_within rises =
      let gate = implied (is_due_answer answer) rose rises in
      grown_by n s (of_settle d d answer) (of_domain n d rose) F G more (search (rules, gate)) (record { owner = refl; pages_of = refl }) (λ g none k is. absurd cc) (λ any g none. absurd cc)
      (λ g none. absurd cc)

module _ (u a w : PortValue) {new : ℕ} (put : Moves u a (old_place u.post.vcpu First) (Store new) kinds.Context None 0) where
  came_put : Came u a
  came_put = moves_came u a (old_place u.post.vcpu First) (Store new) kinds.Context None 0 put

  put_serves : (d : ℕ) (rose : Bool) → Serves u a (of_domain u.post.machine d rose) []
  put_serves d rose = moves_serves u a (of_domain u.post.machine d rose) (old_place u.post.vcpu First) (Store new) kinds.Context None 0 put (inl (refl, inl (λ e. omega (arith, e))))

  inside : (d : ℕ) (answer : Result (Unit {0}) Stop) (rose : Bool) → Implies (is_due_answer answer) rose → Within u.post.machine u.post.vcpu (of_settle d d answer) (Met a w) (of_domain u.post.machine d rose) (Met u w)
  inside d answer rose rises = settles_within u.post.machine u.post.vcpu d answer rose (Met a w) (Met u w) (λ m y. met_after u a w m came_put y) rises

  pub let_go_serves : (answer : Result (Unit {0}) Stop) → ((owner pages : ℕ) → Serves a w (of_settle owner pages answer) (misses a.post.machine answer)) → GoesOnDestroying u w answer
  let_go_serves answer serves = λ d rose rises.
      subst (λ es. Serves u w (of_domain u.post.machine d rose) es) (append-nil (misses u.post.machine answer))
      (serves_inner u a w (of_domain u.post.machine d rose) (of_settle d d answer) [] (misses u.post.machine answer) (inside d answer rose rises) (put_serves d rose)
      (subst (λ (p : Post). Serves a w (of_settle d d answer) (misses p.machine answer)) (came_post u a came_put) (serves d d)))

  let_go_stop : (e : Stop) → IsReleaseEnd e → ((owner pages : ℕ) → Stops a w (of_settle {A = Unit {0}} owner pages (Err e)) e) → StopsOnDestroying u w e
  let_go_stop e end stops = λ d rose rises. stops_later u a w (of_domain u.post.machine d rose) (of_settle {A = Unit {0}} d d (Err e)) e (end_uncounted e end) (inside d (Err e) rose rises) came_put (stops d d)

  pub let_go_stops : (answer : Result (Unit {0}) Stop) → IfErr answer IsReleaseEnd → ((owner pages : ℕ) → IfErr answer (λ e. Stops a w (of_settle owner pages answer) e)) → IfErr answer (λ e. StopsOnDestroying u w e)
  let_go_stops (Ok done) ends stops = tt
  let_go_stops (Err e) ends stops = let_go_stop e ends stops

-- ---- behind steps of the same destruction
pub behind_stops : (u a w : PortValue) (d : ℕ) (e : Stop) → Came u a → IsDestroyStop e → StopsOnDestroying a w e → StopsDestroyer u w d e
behind_stops u a w d e came is stops = λ rose rises.
    stops_then u a w (of_domain u.post.machine d rose) e (destroy_uncounted e is) came (subst (λ (p : Post). Stops a w (of_domain p.machine d rose) e) (came_post u a came) (stops d rose rises))

-- which served it with these deeds
pub behind_serves : {A : Type 0} (u a w : PortValue) (d : ℕ) (ds : List Deed) (answer : Result A Stop) → All (IsDestroyDeed u.post.machine d) ds → ((rose : Bool) → Serves u a (of_domain u.post.machine d rose) ds) → GoesOnDestroying a w answer →
    ServesDestroy u w d answer
behind_serves u a w d ds answer are before goes =
    record {
      deeds = ds;
      are = are;
      serves = λ rose rises.
          serves_then u a w (of_domain u.post.machine d rose) ds (misses u.post.machine answer) (before rose)
          (subst (λ (p : Post). Serves a w (of_domain p.machine d rose) (misses p.machine answer)) (came_post u a (serves_came u a (of_domain u.post.machine d rose) ds (before rose))) (goes d rose rises));
    }

-- nothing was in hand before the typed references
pub let_go_settled : (v b w : PortValue) (ys : List TypedReference) → v.holdings.typed ≡ [] → Holds v b (record v.holdings { typed = ys }) → LetsGoHand b w → SettledHand v w
let_go_settled v b w ys none hand goes =
    goes ∙ ap (λ (q : PortValue). still (record q { holdings = record q.holdings { typed = []; old0 = w.holdings.old0; old1 = w.holdings.old1 } })) hand
    ∙ ap (λ zs. still (record v { holdings = record v.holdings { typed = zs; old0 = w.holdings.old0; old1 = w.holdings.old1 } })) (sym none)
