-- A destruction begins: what its steps serve, why it is refused, and what is known behind it.
use Rattle.std.proofs.Common.{◌≡◌, ◌≢◌, ℕ, ◌+◌, ◌<◌, ◌≤◌, ◌==◌, nat_lt, if◌then◌else◌, Bool, true, false, List, [], ◌++◌, length, All, None, Some, Ok, Err, Result, IsTrue, refl, sym, ap, ◌∙◌, subst, inl, arith}
use Rattle.std.proofs.lemmas.Bool.Decides.{nat_tests}
use Rattle.std.proofs.lemmas.List.Elements.{All-cons, All-nil}
use Rattle.xp_words.specs.Places.{sizes_of}
use Rattle.xp_words.specs.declared.place.Place.TheVariants.{Life, Priv}
use Rattle.xp_words.specs.declared.reply.Refusal.TheVariants.{Dying, NoDomain, NoPrivilege}
use Rattle.xp_words.specs.declared.reply.Stop.{Stop}
use Rattle.xp_words.specs.declared.reply.Stop.TheVariants.{Refused}
use Rattle.xp_words.proofs.Shared.{eq_false as when_ne}
use Rattle.xp_board.specs.Acts.{left_by}
use Rattle.xp_board.specs.Readings.{has_now}
use Rattle.xp_board.specs.Steps.{some_before}
use Rattle.xp_board.specs.Told.{Post, PortValue}
use Rattle.xp_board.specs.declared.step.Act.TheVariants.{Cas, Load}
use Rattle.xp_board.specs.declared.step.StepKind.TheVariants as kinds
use Rattle.xp_board.proofs.Sums.{when_eq}
use Rattle.step_maker.specs.Answers.{Deed, Serves, SetsLife, Stops, deeds_by, misses}
use Rattle.step_maker.specs.Licences.{over_itself, over_others}
use Rattle.step_maker.specs.Moves.{Moves}
use Rattle.step_maker.specs.Visits.{Does, Nothing, Only, Visit, visit}
use Rattle.step_maker.proofs.Changing.{found_after}
use Rattle.step_maker.proofs.Coming.{came_post, moves_came}
use Rattle.step_maker.proofs.Noting.{moves_before}
use Rattle.step_maker.proofs.Piecing.{moves_serves}
use Rattle.step_maker.proofs.Visiting.{does_as, does_nothing, does_one, does_then}
use Rattle.flush_words.proofs.Lasting.{moves_longer}
use Rattle.domain_destroy.specs.Asking.{IsDestroyDeed, ServesDestroy, StopsDestroyer, of_domain}
use Rattle.domain_destroy.specs.Coming.{FoundStopped}
use Rattle.domain_destroy.specs.Course.{BeginsBy, LooksAndDooms, own_of}
use Rattle.domain_destroy.proofs.Parts.{found_there, looks_serve, one_look, serves_destroy_then}

abbrev pub Begins : PortValue → PortValue → ℕ → Result (Unit {0}) Stop → Type 0
Begins v w d answer = Does v w (λ vs. BeginsBy v.post d answer vs)

-- ---- nothing is done
module _ (v : PortValue) (d : ℕ) where
  begins_with_nothing : (answer : Result (Unit {0}) Stop) → ((vs : List Visit) → Nothing vs → BeginsBy v.post d answer vs) → Begins v v d answer
  begins_with_nothing answer so = does_as v v Nothing (λ vs. BeginsBy v.post d answer vs) so (does_nothing v)

  pub missing_by : length v.post.machine.page_limit ≤ d → Begins v v d (Err (Refused NoDomain))
  missing_by high = begins_with_nothing (Err (Refused NoDomain)) (λ vs none. BeginsBy.missing vs high none)

  pub missing_stops : length v.post.machine.page_limit ≤ d → StopsDestroyer v v d (Refused NoDomain)
  unfolding Stops
  missing_stops high =
      λ rose rises.
      (let beyond : nat_lt d (length v.post.machine.page_limit) ≡ false = grind (arith, nat_tests) in
      ap (λ (b : Bool). if b then None else Some NoDomain) beyond)

  module _ (caller : ℕ) (mine : caller ≡ own_of v.post) (is : d ≡ caller) where
    pub own_by : Begins v v d (Err (Refused (NoPrivilege caller d)))
    own_by =
        subst (λ k. Begins v v d (Err (Refused (NoPrivilege k d)))) (sym mine)
        (begins_with_nothing (Err (Refused (NoPrivilege (own_of v.post) d))) (λ vs none. BeginsBy.own vs (is ∙ mine) none))

    pub own_stops : StopsDestroyer v v d (Refused (NoPrivilege caller d))
    unfolding Stops
    own_stops = λ rose rises. over_itself refl mine (sym is)

-- ---- the privileges are looked at
module _ (v u : PortValue) (d x caller : ℕ) (mine : caller ≡ own_of v.post) (real : d < length v.post.machine.page_limit) (off : d ≢ caller) (look : Moves v u (Priv caller) Load kinds.Look None x) where
  other : d ≢ own_of v.post
  other is = off (is ∙ sym mine)

  priv : Moves v u (Priv (own_of v.post)) Load kinds.Look None x
  priv = subst (λ k. Moves v u (Priv k) Load kinds.Look None x) mine look

  pub barred_by : has_now d x ≡ false → Begins v u d (Err (Refused (NoPrivilege caller d)))
  barred_by without =
      subst (λ k. Begins v u d (Err (Refused (NoPrivilege k d)))) (sym mine)
      (does_as v u (Only (visit (Priv (own_of v.post)) Load x)) (λ vs. BeginsBy v.post d (Err (Refused (NoPrivilege (own_of v.post) d))) vs) (λ vs one. BeginsBy.barred x vs real other without one)
      (does_one v u _ _ _ _ x priv))

  pub barred_stops : has_now d x ≡ false → StopsDestroyer v u d (Refused (NoPrivilege caller d))
  unfolding Stops
  barred_stops without =
      λ rose rises.
      over_others (when_eq d d refl) (inl mine) (λ same. off (sym same)) x (found_there v u (Priv caller) Load kinds.Look None x look) (rw without refl)

  pub looked_serves : (answer : Result (Unit {0}) Stop) → misses v.post.machine answer ≡ [] → ServesDestroy v u d answer
  looked_serves answer none = looks_serve v u d answer none (one_look v u (Priv (own_of v.post)) x (λ r. tt) priv)

  -- and then the life word exchanged
  module _ (w : PortValue) (found : ℕ) (life : Moves u w (Life d) (Cas 0 (u.post.vcpu + 1)) kinds.Life None found) (had : has_now d x ≡ true) where
    same_post : u.post ≡ v.post
    same_post = came_post v u (moves_came v u _ _ _ _ x priv)

    dooms : Moves u w (Life d) (Cas 0 (v.post.vcpu + 1)) kinds.Life None found
    dooms = subst (λ (q : Post). Moves u w (Life d) (Cas 0 (q.vcpu + 1)) kinds.Life None found) same_post life

    both_do : Does v w (λ vs. LooksAndDooms v.post d x found vs)
    both_do = does_then v u w _ _ (does_one v u _ _ _ _ x priv) (does_one u w _ _ _ _ found dooms)

    pub begun_by : found ≡ 0 → Begins v w d (Ok tt)
    begun_by lives =
        does_as v w (λ vs. LooksAndDooms v.post d x 0 vs) (λ vs. BeginsBy v.post d (Ok tt) vs) (λ vs both. BeginsBy.begun x vs real other had both)
        (subst (λ k. Does v w (λ vs. LooksAndDooms v.post d x k vs)) lives both_do)

    pub dying_by : found ≢ 0 → Begins v w d (Err (Refused (Dying d found)))
    dying_by dies =
        does_as v w (λ vs. LooksAndDooms v.post d x found vs) (λ vs. BeginsBy v.post d (Err (Refused (Dying d found))) vs) (λ vs both. BeginsBy.dying x found vs real other had dies both) both_do

    pub dying_stops : found ≢ 0 → StopsDestroyer v w d (Refused (Dying d found))
    unfolding Stops
    dying_stops dies = λ rose rises. (when_eq d d refl, found_after v u w (Life d) found (moves_came v u _ _ _ _ x priv) (found_there u w (Life d) (Cas 0 (u.post.vcpu + 1)) kinds.Life None found life), dies)

    -- what a guest sees
    abbrev exchange_deeds : List Deed
    exchange_deeds = deeds_by (Life d) (Cas 0 (u.post.vcpu + 1)) kinds.Life found u.holdings

    dooms_serves : {A : Type 0} (answer : Result A Stop) → misses u.post.machine answer ≡ [] → All (IsDestroyDeed u.post.machine d) exchange_deeds → ServesDestroy u w d answer
    dooms_serves answer none are =
        record {
          deeds = exchange_deeds;
          are = are;
          serves = λ rose rises.
              subst (λ (ds : List Deed). Serves u w (of_domain u.post.machine d rose) (ds ++ exchange_deeds)) (sym none)
              (moves_serves u w (of_domain u.post.machine d rose) (Life d) (Cas 0 (u.post.vcpu + 1)) kinds.Life None found life refl);
        }

    pub begun_serves : found ≡ 0 → ServesDestroy {A = Unit {0}} v w d (Ok tt)
    begun_serves lives =
        serves_destroy_then v u w d tt (Ok tt) (looked_serves (Ok tt) refl)
        (dooms_serves (Ok tt) refl (subst (λ k. All (IsDestroyDeed u.post.machine d) (deeds_by (Life d) (Cas 0 (u.post.vcpu + 1)) kinds.Life k u.holdings)) (sym lives) (All-cons (IsDestroyDeed u.post.machine d) (SetsLife d (u.post.vcpu + 1)) [] refl (All-nil (IsDestroyDeed u.post.machine d)))))

    pub dying_serves : found ≢ 0 → ServesDestroy {A = Unit {0}} v w d (Err (Refused (Dying d found)))
    dying_serves dies =
        serves_destroy_then v u w d tt (Err (Refused (Dying d found))) (looked_serves (Ok tt) refl) (dooms_serves (Err (Refused (Dying d found))) refl (rw (when_ne found 0 dies) (All-nil (IsDestroyDeed u.post.machine d))))

    pub begun_come : found ≡ 0 → FoundStopped w.post.machine w.post.vcpu d 0 w.holdings
    unfolding left_by
    begun_come lives =
        let last : w.post ≡ u.post = came_post u w (moves_came u w _ _ _ _ found life) in
        let longer = moves_longer u w _ _ _ _ found life in
        subst (λ (q : Post). FoundStopped q.machine q.vcpu d 0 w.holdings) (sym (last ∙ same_post))
        (record {
          since = length w.holdings.steps;
          doomed = record {
            foreign = record { real = real; other = λ same. other (sym same) };
            stored =
                subst (λ (q : Post). IsTrue (some_before (sizes_of q.machine) (length w.holdings.steps) (Life d) (λ k. k == q.vcpu + 1) w.holdings.steps)) same_post
                (moves_before u w (Life d) (Cas 0 (u.post.vcpu + 1)) kinds.Life None found life (length w.holdings.steps) (λ k. k == u.post.vcpu + 1) (omega (arith, longer))
                (rw lives (when_eq (u.post.vcpu + 1) (u.post.vcpu + 1) refl)));
            order = omega arith;
          };
          stopped = λ k low domain of. absurd (omega arith);
        })
