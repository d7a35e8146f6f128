-- What a call is paused for that takes a reference, ordinary memory or a table, and that no frame falls back then.
use Rattle.std.proofs.Common.{◌≡◌, ◌≢◌, ℕ, Bool, true, false, List, Result, Ok, Err, refl, sym, ◌∙◌, subst}
use Rattle.xp_words.specs.Machine.{Machine}
use Rattle.xp_words.specs.declared.kind.PageType.TheVariants.{Writable}
use Rattle.xp_words.specs.declared.place.Place.TheVariants.{Kind}
use Rattle.xp_words.specs.declared.reply.Pause.{Pause}
use Rattle.xp_words.specs.declared.reply.Pause.TheVariants.{Due, Lost, Busy, Flush, Alive}
use Rattle.xp_words.specs.declared.reply.Stop.{Stop}
use Rattle.xp_words.specs.declared.reply.Stop.TheVariants.{Refused, Paused}
use Rattle.xp_board.specs.Told.{PortValue, is_telling, told_word}
use Rattle.step_maker.proofs.Telling.{came_telling}
use Rattle.step_maker.proofs.Visiting.{does_came}
use Rattle.flush_waits.specs.Waiting.{IsWait}
use Rattle.frame_types.specs.declared.taking.Taken.TheVariants as types
use Rattle.kind_words.specs.Kinds.{partial_kind}
use Rattle.table_entries.specs.Acquiring.{Acquired, GotRef, TookType}
use Rattle.writable_pages.specs.Pages as pages
use Rattle.writable_pages.specs.Pages.{GotPage, LeftPage, PageLeft, TookPage}
use Rattle.vcpu_turn.specs.Unhindered.{IsUnhindered}
use Rattle.vcpu_turn.specs.declared.cpu.TurnEnd.TheVariants as ends
use Rattle.frame_ranks.specs.Ranks.{AreAllAlive}
use Rattle.turn_measures.proofs.Forward.{comes_so}
use Rattle.turn_measures.proofs.Asides.{Passes, ref_passes}
use Rattle.turn_measures.proofs.Calm.{AcquiredForward, AcquiredFurther, ComesTo, IsCalm, acquired_comes, alive_on, comes_from}
use Rattle.step_maker.proofs.Coming.{same_machine}
use Rattle.turn_measures.proofs.Storing.{Stored, kept_stored, shared_stored}
use Rattle.turn_measures.proofs.Paging.{life_waiting, never_busy, waits_forward}

-- ---- a call that stops, where no other vCPU hinders it
abbrev pub ComesFor : Machine → Stop → PortValue → PortValue → Type 0
ComesFor n (Refused x) v w = Unit {0}
ComesFor n (Paused p) v w = IsUnhindered n (ends.Paused p) → ComesTo p v w

abbrev pub ComesBy : {A : Type 0} → Machine → Result A Stop → PortValue → PortValue → Type 0
ComesBy n (Ok a) v w = Unit {0}
ComesBy n (Err e) v w = ComesFor n e v w

module _ (n : Machine) where
  pub for_from : (e : Stop) (v u w : PortValue) → Passes v u → ComesFor n e u w → ComesFor n e v w
  for_from (Refused x) v u w p c = tt
  for_from (Paused x) v u w p c = λ un. comes_from x v u w p (c un)

  pub by_passes : {A : Type 0} (r : Result A Stop) (v u w : PortValue) → Passes v u → ComesBy n r u w → ComesBy n r v w
  by_passes (Ok done) v u w p c = tt
  by_passes (Err e) v u w p c = for_from e v u w p c

  pub never_for : (e : Stop) (v w : PortValue) → ((p : Pause) → e ≡ Paused p → IsUnhindered n (ends.Paused p) → ⊥) → ComesFor n e v w
  never_for (Refused x) v w off = tt
  never_for (Paused x) v w off = λ un. absurd (off x refl un)

  pub is_lost : (p : Pause) (place e x : ℕ) → Paused (Lost place e x) ≡ Paused p → IsUnhindered n (ends.Paused p) → ⊥
  is_lost p place e x is un = let same : p ≡ Lost place e x = cc in subst (λ y. IsUnhindered n (ends.Paused y)) same un

  -- ---- a reference, and a table
  pub unreferred_for : (v w : PortValue) (f owner : ℕ) (e : Stop) → is_telling v ≡ true → GotRef v w f owner (Err e) → ComesFor n e v w
  unreferred_for v w f owner (Refused x) telling ref = tt
  unreferred_for v w f owner (Paused x) telling ref = absurd (ref.plain telling)

  pub acquired_for : AcquiredForward → AcquiredFurther → (v w : PortValue) (f owner level : ℕ) (answers : List Bool) (e : Stop) → IsCalm v → Acquired v f owner level w answers (Err e) → ComesFor n e v w
  acquired_for forward further v w f owner level answers (Refused x) calm a = tt
  acquired_for forward further v w f owner level answers (Paused x) calm a = λ un. acquired_comes forward further v w f owner level answers x calm a

  -- ---- ordinary memory
  untyped_for : (v u w : PortValue) (f owner : ℕ) (e : Stop) → is_telling v ≡ true → TookType v u f owner 0 (Err e) → ComesFor n e v w
  untyped_for v u w f owner (Refused x) telling type = tt
  untyped_for v u w f owner (Paused x) telling type = λ un. absurd (never_busy n f (told_word v (Kind f)) Writable x (type.plain telling).0 un)

  wait_not_due : (p : Pause) → IsWait (Paused p) → p ≢ Due
  wait_not_due (Flush u stamp found) wait = λ e. cc
  wait_not_due Due wait = absurd wait
  wait_not_due (Lost place expected found) wait = absurd wait
  wait_not_due (Busy f found) wait = absurd wait
  wait_not_due (Alive u found) wait = absurd wait

  page_stored : (v w : PortValue) (f owner stamp : ℕ) (own : Bool) → is_telling v ≡ true → AreAllAlive v.post.machine (told_word v) → PageLeft v w f owner stamp own false → Stored v w f (partial_kind Writable own true 0 stamp)
  page_stored v w f owner stamp true telling alive left = kept_stored v w f _ owner telling alive left
  page_stored v w f owner stamp false telling alive left = shared_stored v w f stamp Writable telling left

  -- no life changes as the frame comes into work
  alive_waiting : (v u : PortValue) (f owner stamp : ℕ) (own : Bool) (stop : Stop) → is_telling v ≡ true → AreAllAlive v.post.machine (told_word v) → TookType v u f owner 0 (Ok (types.Waiting own stamp stop)) → AreAllAlive u.post.machine (told_word u)
  alive_waiting v u f owner stamp own stop telling alive type = let is = same_machine v u (does_came v u _ type.found) in subst (λ (k : Machine). AreAllAlive k (told_word u)) (sym is) (λ d real. life_waiting v u f owner stamp own stop telling type d ∙ alive d real)

  waiting_for : (v u w : PortValue) (f owner stamp : ℕ) (own : Bool) (e : Stop) → is_telling v ≡ true → AreAllAlive v.post.machine (told_word v) → TookType v u f owner 0 (Ok (types.Waiting own stamp e)) → LeftPage u w f owner stamp own e → ComesFor n e v w
  waiting_for v u w f owner stamp own (Refused x) telling alive type left = tt
  waiting_for v u w f owner stamp own (Paused x) telling alive type left =
      let came = does_came v u _ type.found in
      let stored = page_stored u w f owner stamp own (came_telling v u came ∙ telling) (alive_waiting v u f owner stamp own (Paused x) telling alive type) left.steps in
      λ un. comes_so v.post.machine x (told_word v) (told_word w) (wait_not_due x type.waits.0) (waits_forward v u f owner stamp own (Paused x) telling type w stored)

  pub took_page_for : (v : PortValue) (f owner : ℕ) (w : PortValue) (r : Result (Unit {0}) Stop) → is_telling v ≡ true → AreAllAlive v.post.machine (told_word v) → TookPage v f owner w r → ComesBy n r v w
  took_page_for v f owner _ _ telling alive (pages.counted w type) = tt
  took_page_for v f owner _ _ telling alive (pages.untyped u w stop type back) = untyped_for v u w f owner stop telling type
  took_page_for v f owner _ _ telling alive (pages.waiting u w own stamp stop type left) = waiting_for v u w f owner stamp own stop telling alive type left

  pub page_for : (v : PortValue) (f owner : ℕ) (w : PortValue) (r : Result ℕ Stop) → is_telling v ≡ true → AreAllAlive v.post.machine (told_word v) → GotPage v f owner w r → ComesBy n r v w
  page_for v f owner _ _ telling alive (pages.unreferred w stop ref) = unreferred_for v w f owner stop telling ref
  page_for v f owner _ _ telling alive (pages.refused u w stop ref took) =
      let p = ref_passes v u f owner telling ref in
      for_from stop v u w p (took_page_for u f owner w (Err stop) (came_telling v u p.came ∙ telling) (alive_on v u p alive) took)
  page_for v f owner _ _ telling alive (pages.had u w ref took) = tt
