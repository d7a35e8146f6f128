-- All that the steps show that read whose tables and frames a call names: by the list of them.
use Rattle.std.proofs.Common.{◌≡◌, ◌⊎◌, ℕ, ◌<◌, ◌≤◌, ◌^◌, List, [], ◌++◌, length, Result, Ok, Err, IfErr, IsTrue, sym, ap, ◌∙◌, subst}
use Rattle.xp_words.specs.Machine.{Machine}
use Rattle.xp_words.specs.Places.{sizes_of}
use Rattle.xp_words.specs.declared.place.Place.TheVariants.{Priv}
use Rattle.xp_words.specs.declared.reply.Refusal.{Refusal}
use Rattle.xp_words.specs.declared.reply.Refusal.TheVariants.{BadRange}
use Rattle.xp_words.specs.declared.reply.Stop.TheVariants.{Refused}
use Rattle.xp_board.specs.Lists.{EachOf}
use Rattle.xp_board.specs.Readings.{domain_of, has_now}
use Rattle.xp_board.specs.Steps.{some_since}
use Rattle.xp_board.specs.Told.{Post, PortValue, told_word}
use Rattle.step_maker.specs.Holds.{Same}
use Rattle.step_maker.specs.Moves.{Met}
use Rattle.step_maker.specs.Answers.{Serves, Stops}
use Rattle.step_maker.specs.Visits.{Visit, Does, Nothing, Then}
use Rattle.step_maker.proofs.Visiting.{does_as, does_next, does_nothing, does_then}
use Rattle.foreign_map.specs.declared.owners.Owners.{Owners}
use Rattle.foreign_map.specs.Owning.{Admits, AdmitsBy, AdmitsFound, AllowsBy, AllowsFound, MayMapFor, OverOf, OwnersBy, FoundOwners, TwinOwners, frames_of, of_owners, tables_of}
use Rattle.foreign_map.specs.Owning as by
use Rattle.foreign_map.proofs.Looking.{IsLook, looks_leave, looks_serve, shown}
use Rattle.foreign_map.proofs.Naming.{owners_look, owners_told}
use Rattle.foreign_map.proofs.Refusing.{owners_had, owners_licensed}

module _ (v w : PortValue) (caller foreign : ℕ) (answer : Result Owners Refusal) (found : FoundOwners v w caller foreign answer) where
  looks : Does v w (EachOf IsLook)
  looks = does_as v w (λ vs. OwnersBy v.post.machine caller foreign answer vs) (EachOf IsLook) (λ vs a. owners_look v.post.machine caller foreign answer vs a) found

  pub owners_serve : Serves v w (of_owners v.post.machine caller foreign) []
  owners_serve = looks_serve v w (of_owners v.post.machine caller foreign) looks

  pub owners_twin : TwinOwners v w caller foreign answer
  owners_twin telling =
      let s = shown v w (λ vs. OwnersBy v.post.machine caller foreign answer vs) (λ vs a. owners_look v.post.machine caller foreign answer vs a) found in
      (owners_told (told_word v) v.post.machine caller foreign answer s.0 (λ p x saw. s.2.told p x telling saw) s.1, looks_leave v w looks telling)

pub owners_stop : (v w : PortValue) (caller foreign : ℕ) (answer : Result Owners Refusal) → caller ≡ domain_of v.post.machine v.post.vcpu → FoundOwners v w caller foreign answer →
    IfErr answer (λ x. Stops v w (of_owners v.post.machine caller foreign) (Refused x))
unfolding Stops
owners_stop v w caller foreign (Ok o) own found = tt
owners_stop v w caller foreign (Err x) own found =
    let s = shown v w (λ vs. OwnersBy v.post.machine caller foreign (Err x) vs) (λ vs a. owners_look v.post.machine caller foreign (Err x) vs a) found in
    owners_licensed v.post.machine v.post.vcpu v.holdings caller foreign (Met v w) own x s.0 (λ p y saw. s.2.found p y saw) s.1

pub owners_may : (v w : PortValue) (caller foreign : ℕ) (o : Owners) → Same v w → o.tables < length v.post.machine.page_limit → o.frames < length v.post.machine.page_limit → FoundOwners v w caller foreign (Ok o) →
    MayMapFor w o
owners_may v w caller foreign o same tables frames found =
    let s = shown v w (λ vs. OwnersBy v.post.machine caller foreign (Ok o) vs) (λ vs a. owners_look v.post.machine caller foreign (Ok o) vs a) found in
    let post : v.post ≡ w.post = sym (ap (λ (y : PortValue). y.post) same) in
    let turn : v.holdings.turn ≡ w.holdings.turn = sym (ap (λ (y : PortValue). y.holdings.turn) same) in
    let had = owners_had v w v.post.machine caller foreign o s.0 s.2 s.1 in
    record {
      tables = subst (λ (y : Post). o.tables < length y.machine.page_limit) post tables;
      frames = subst (λ (y : Post). o.frames < length y.machine.page_limit) post frames;
      over = subst (λ (y : Post). (o.frames ≡ o.tables) ⊎ IsTrue (some_since (sizes_of y.machine) w.holdings.turn (Priv o.tables) (has_now o.frames) w.holdings.steps)) post
          (subst (λ k. (o.frames ≡ o.tables) ⊎ IsTrue (some_since (sizes_of v.post.machine) k (Priv o.tables) (has_now o.frames) w.holdings.steps)) turn had);
    }

-- ---- by the calls, in order
-- the answer is the number itself
pub admitted_is : (v w : PortValue) (caller d k : ℕ) → AdmitsFound v w caller d (Ok k) → k ≡ d
unfolding Does
admitted_is v w caller d k found = found.2.0

module _ (v : PortValue) (caller foreign : ℕ) where
  pub owners_above : 2 ^ 32 ≤ foreign → FoundOwners v v caller foreign (Err BadRange)
  owners_above high =
      does_as v v Nothing (λ vs. OwnersBy v.post.machine caller foreign (Err BadRange) vs) (λ vs none. subst (λ us. OwnersBy v.post.machine caller foreign (Err BadRange) us) (sym none) (by.above high)) (does_nothing v)

  module _ (low : foreign < 2 ^ 32) (u : PortValue) where
    pub owners_no_tables : (x : Refusal) → AdmitsFound v u caller (tables_of caller foreign) (Err x) → FoundOwners v u caller foreign (Err x)
    owners_no_tables x first =
        does_as v u (λ vs. AdmitsBy v.post.machine caller (tables_of caller foreign) (Err x) vs) (λ vs. OwnersBy v.post.machine caller foreign (Err x) vs) (λ vs a. by.no_tables x vs low a) first

    module _ (t : ℕ) (first : AdmitsFound v u caller (tables_of caller foreign) (Ok t)) (y : PortValue) where
      First : List Visit → Type 0
      First vs = AdmitsBy v.post.machine caller (tables_of caller foreign) (Ok t) vs

      Next : Result ℕ Refusal → Machine → List Visit → Type 0
      Next answer n vs = AdmitsBy n caller (frames_of caller foreign) answer vs

      both : (answer : Result ℕ Refusal) → AdmitsFound u y caller (frames_of caller foreign) answer → Does v y (Then First (Next answer v.post.machine))
      unfolding First Next
      both answer next = does_next v u y First (Next answer) first next

      pub owners_no_frames : (x : Refusal) → AdmitsFound u y caller (frames_of caller foreign) (Err x) → FoundOwners v y caller foreign (Err x)
      unfolding First Next
      owners_no_frames x next =
          does_as v y (Then First (Next (Err x) v.post.machine)) (λ vs. OwnersBy v.post.machine caller foreign (Err x) vs)
          (λ vs a. subst (λ us. OwnersBy v.post.machine caller foreign (Err x) us) (sym a.list) (by.no_frames x a.before a.after low a.first.1 a.next)) (both (Err x) next)

      module _ (f : ℕ) (next : AdmitsFound u y caller (frames_of caller foreign) (Ok f)) (w : PortValue) where
        Last : Result (Unit {0}) Refusal → List Visit → Type 0
        Last answer vs = AllowsBy caller (tables_of caller foreign) (frames_of caller foreign) answer vs

        all_three : (answer : Result (Unit {0}) Refusal) → AllowsFound y w caller t f answer → Does v w (Then (Then First (Next (Ok f) v.post.machine)) (Last answer))
        unfolding First Next Last
        all_three answer last =
            let is_t = admitted_is v u caller (tables_of caller foreign) t first in
            let is_f = admitted_is u y caller (frames_of caller foreign) f next in
            let named : AllowsFound y w caller (tables_of caller foreign) (frames_of caller foreign) answer =
            subst (λ k. AllowsFound y w caller k (frames_of caller foreign) answer) is_t (subst (λ k. AllowsFound y w caller t k answer) is_f last) in
            does_then v y w (Then First (Next (Ok f) v.post.machine)) (Last answer) (both (Ok f) next) named

        pub owners_apart : (x : Refusal) → AllowsFound y w caller t f (Err x) → FoundOwners v w caller foreign (Err x)
        unfolding First Next Last
        owners_apart x last =
            does_as v w (Then (Then First (Next (Ok f) v.post.machine)) (Last (Err x))) (λ vs. OwnersBy v.post.machine caller foreign (Err x) vs)
            (λ vs a. subst (λ us. OwnersBy v.post.machine caller foreign (Err x) us) (sym (a.list ∙ ap (λ (us : List Visit). a.after ++ us) a.first.list))
            (by.apart x a.first.before a.first.after a.after low a.first.first.1 a.first.next.1 a.next)) (all_three (Err x) last)

        pub owners_named : AllowsFound y w caller t f (Ok tt) → FoundOwners v w caller foreign (Ok (record { tables = tables_of caller foreign; frames = frames_of caller foreign }))
        unfolding First Next Last
        owners_named last =
            let answer : Result Owners Refusal = Ok (record { tables = tables_of caller foreign; frames = frames_of caller foreign }) in
            does_as v w (Then (Then First (Next (Ok f) v.post.machine)) (Last (Ok tt))) (λ vs. OwnersBy v.post.machine caller foreign answer vs)
            (λ vs a. subst (λ us. OwnersBy v.post.machine caller foreign answer us) (sym (a.list ∙ ap (λ (us : List Visit). a.after ++ us) a.first.list))
            (by.had a.first.before a.first.after a.after low a.first.first.1 a.first.next.1 a.next)) (all_three (Ok tt) last)

        pub owners_are : AllowsFound y w caller t f (Ok tt) → FoundOwners v w caller foreign (Ok (record { tables = t; frames = f }))
        owners_are last =
            let is_t = admitted_is v u caller (tables_of caller foreign) t first in
            let is_f = admitted_is u y caller (frames_of caller foreign) f next in
            subst (λ k. FoundOwners v w caller foreign (Ok (record { tables = k; frames = f }))) (sym is_t)
            (subst (λ k. FoundOwners v w caller foreign (Ok (record { tables = tables_of caller foreign; frames = k }))) (sym is_f) (owners_named last))
