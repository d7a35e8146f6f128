-- What a claim comes to on a board that tells all words, and by how many looks at reference words.
use Rattle.std.proofs.Common.{◌≡◌, ◌≢◌, ℕ, ◌+◌, ◌*◌, ◌/◌, ◌%◌, ◌^◌, ◌<◌, ◌≤◌, List, Option, Some, None, Result, Ok, Err, refl, sym, ap, ◌∙◌, subst, inl, inr, arith}
use Rattle.xp_words.specs.Entries.{is_bit}
use Rattle.xp_words.specs.declared.place.Place.{Place}
use Rattle.xp_words.specs.declared.place.Place.TheVariants.{Map, Pages, Refs}
use Rattle.xp_words.specs.declared.reply.Pause.TheVariants.{Flush, Lost}
use Rattle.xp_words.specs.declared.reply.Stop.{Stop}
use Rattle.xp_words.specs.declared.reply.Stop.TheVariants.{Refused, Paused}
use Rattle.xp_board.specs.Readings.{is_free}
use Rattle.xp_board.specs.Told.{Post}
use Rattle.step_maker.specs.Plain.{Words}
use Rattle.step_maker.specs.Reasons.{Those}
use Rattle.step_maker.specs.Visits.{Visit, Then}
use Rattle.flush_waits.specs.Listing.{WaitedFor}
use Rattle.flush_waits.specs.Waiting.{everyone}
use Rattle.frame_claims.specs.Blocks.{IsBlockSize}
use Rattle.frame_claims.specs.Choosing.{greatest}
use Rattle.frame_claims.specs.Found.{AllGivenBy, ChargedBy, ChosenBy, ClaimsBy, FlushedFor, FreeBlock, TakenBy, TookBy}
use Rattle.frame_claims.specs.Plain.{ClaimsPlainly, HasRoom, IsFirstFree, IsWhollyFree, MapAgrees, ref_looks}
use Rattle.frame_claims.proofs.Hinting.{looks_then}
use Rattle.frame_claims.proofs.Plainly.{aside_quiet, charge_stops, charged_away, charged_quiet, chosen_looks, given_quiet, room_by, taken_quiet}
use Rattle.frame_claims.proofs.Running.{chosen_fails, chosen_had}
use Rattle.frame_claims.proofs.Telling.{AllTold, IsNoRefLook, away_same, looks_saw, no_looks, told_parts, words_after}
use Rattle.frame_claims.proofs.Waiting.{is_clock, waited_all}

abbrev pub NeverLost : Stop → Type 0
NeverLost e = (place s x : ℕ) → e ≡ Paused (Lost place s x) → ⊥

module _ (q : Post) (m : Words) (agrees : MapAgrees q.machine m) (small : (w : ℕ) → m (Map w) < 2 ^ 64) (d k : ℕ) (size : IsBlockSize k) where
  -- ---- behind the count of the pages
  module _ (r : Words) (same : (p : Place) → Pages d ≢ p → r p ≡ m p) where
    agrees_there : MapAgrees q.machine r
    agrees_there f low = ap (λ y. is_bit (f % 64) y) (same (Map (f / 64)) (λ e. cc)) ∙ agrees f low ∙ ap is_free (sym (same (Refs f) (λ e. cc)))

    small_there : (w : ℕ) → r (Map w) < 2 ^ 64
    small_there w = subst (λ x. x < 2 ^ 64) (sym (same (Map w) (λ e. cc))) (small w)

    free_back : (f : ℕ) → IsWhollyFree r k f → IsWhollyFree m k f
    free_back f free j low = ap is_free (sym (same (Refs (f + j)) (λ e. cc))) ∙ free j low

    free_there : (f : ℕ) → IsWhollyFree m k f → IsWhollyFree r k f
    free_there f free j low = ap is_free (same (Refs (f + j)) (λ e. cc)) ∙ free j low

    first_back : (f : ℕ) → IsFirstFree q.machine r k f → IsFirstFree q.machine m k f
    first_back f first = record { aligned = first.aligned; inside = first.inside; whole = free_back f first.whole; least = λ b less free. first.least b less (free_there (b * k) free) }

    block_had : (b : FreeBlock) (us : List Visit) → ChosenBy q.machine k (Some b) us → AllTold r us → (ref_looks us ≡ k) × IsFirstFree q.machine m k b.first
    block_had b us t told =
        let had = chosen_had q.machine r agrees_there small_there k size b us t (looks_saw r us (chosen_looks q.machine k (Some b) us t) told) in
        (had.0, first_back b.first had.1)

    none_had : (us : List Visit) → ChosenBy q.machine k None us → AllTold r us → (b : ℕ) → b * k + k ≤ q.machine.frames → IsWhollyFree m k (b * k) → ⊥
    none_had us t told b fits free = chosen_fails q.machine r agrees_there small_there k size us t (looks_saw r us (chosen_looks q.machine k None us t) told) b fits (free_there (b * k) free)

    -- ---- and a wait
    flushed_had : (b : FreeBlock) (answer : Result (Unit {0}) Stop) (us : List Visit) → FlushedFor q k b answer us → AllTold r us → (ref_looks us ≡ k) × IsFirstFree q.machine m k b.first
    flushed_had b answer us t told =
        let had = block_had b t.before t.first (told_parts r t.before t.after (subst (AllTold r) t.list told)).0 in
        let quiet = no_looks t.after (waited_all IsNoRefLook aside_quiet q (Those everyone) (greatest b.stamps) answer t.after t.next) in
        let all = looks_then r (ChosenBy q.machine k (Some b)) (WaitedFor q (Those everyone) (greatest b.stamps) answer) us t in
        let k_is = had.0 in
        (omega (arith, quiet, all, k_is), had.1)

    took_had : (f : ℕ) (us : List Visit) → TookBy q d k (Ok f) us → AllTold r us → (ref_looks us ≡ k) × IsFirstFree q.machine m k f
    took_had f us t told =
        let b : FreeBlock = record { first = f; stamps = t.0 } in
        let had = flushed_had b (Ok tt) t.1.before t.1.first (told_parts r t.1.before t.1.after (subst (AllTold r) t.1.list told)).0 in
        let quiet = no_looks t.1.after (taken_quiet q.machine d f t.0 t.1.after t.1.next) in
        let all = looks_then r (FlushedFor q k b (Ok tt)) (TakenBy q.machine d f t.0 (Ok tt)) us t.1 in
        let k_is = had.0 in
        (omega (arith, quiet, all, k_is), had.1)

    wait_stops : (e : Stop) (whose : ℕ) (us : List Visit) → WaitedFor q (Those everyone) whose (Err e) us → HasRoom q.machine m d k → (f : ℕ) → IsFirstFree q.machine m k f → ClaimsPlainly q.machine m d k (Err e)
    wait_stops (Refused x) stamp us t room f first = subst (λ y. ClaimsPlainly q.machine m d k (Err (Refused y))) (sym (is_clock q (Those everyone) stamp t.0 x us t.1)) (room, (f, first))
    wait_stops (Paused (Flush u s x)) stamp us t room f first = (room, (f, first))
    wait_stops (Paused _) stamp us t room f first = absurd t

    never_taken : (e : Stop) (f : ℕ) (stamps : List ℕ) (us : List Visit) → NeverLost e → TakenBy q.machine d f stamps (Err e) us → ⊥
    never_taken (Refused x) f stamps us kept t = t
    never_taken (Paused (Lost place s x)) f stamps us kept t = kept place s x refl
    never_taken (Paused _) f stamps us kept t = absurd t

    took_stops : (e : Stop) (us : List Visit) → NeverLost e → TookBy q d k (Err e) us → AllTold r us → HasRoom q.machine m d k → ClaimsPlainly q.machine m d k (Err e)
    took_stops e us kept (inl t) told room = subst (λ y. ClaimsPlainly q.machine m d k (Err y)) (sym t.0) (room, none_had us t.1 told)
    took_stops e us kept (inr (inl t)) told room = wait_stops e (greatest t.0.stamps) t.1.after t.1.next room t.0.first (flushed_had t.0 (Err e) us t.1 told).1
    took_stops e us kept (inr (inr t)) told room = absurd (never_taken e t.0.first t.0.stamps t.1.after kept t.1.next)

  -- ---- the whole
  counted_same : (vs : List Visit) → ChargedBy q.machine d k (Ok tt) vs → (p : Place) → Pages d ≢ p → words_after m vs p ≡ m p
  counted_same vs t p off = away_same p m vs (charged_away q.machine d k p off vs t)

  pub claim_had : (g : Option ℕ) (f : ℕ) (vs : List Visit) → AllTold m vs → ClaimsBy q d k g (Ok f) vs → (ref_looks vs ≡ k) × ClaimsPlainly q.machine m d k (Ok f)
  claim_had g f vs told t =
      let parts = told_parts m t.before t.after (subst (AllTold m) t.list told) in
      let u = t.next in
      let inner = told_parts (words_after m t.before) u.before u.after (subst (AllTold (words_after m t.before)) u.list parts.1) in
      let had = took_had (words_after m t.before) (counted_same t.before t.first) f u.before u.first inner.0 in
      let one = no_looks t.before (charged_quiet q.machine d k t.before t.first) in
      let two = no_looks u.after (given_quiet d f g k u.after u.next) in
      let all = looks_then m (ChargedBy q.machine d k (Ok tt)) (Then (TookBy q d k (Ok f)) (AllGivenBy d f g k)) vs t in
      let rest = looks_then m (TookBy q d k (Ok f)) (AllGivenBy d f g k) t.after u in
      let k_is = had.0 in
      (omega (arith, one, two, all, rest, k_is), (room_by q.machine m d k t.before t.first parts.0, had.1))

  pub claim_stops : (g : Option ℕ) (e : Stop) (vs : List Visit) → NeverLost e → AllTold m vs → ClaimsBy q d k g (Err e) vs → ClaimsPlainly q.machine m d k (Err e)
  claim_stops g e vs kept told (inl t) = charge_stops q.machine m d k e vs kept t told
  claim_stops g e vs kept told (inr t) =
      let parts = told_parts m t.before t.after (subst (AllTold m) t.list told) in
      let u = t.next in
      let inner = told_parts (words_after m t.before) u.before u.after (subst (AllTold (words_after m t.before)) u.list parts.1) in
      took_stops (words_after m t.before) (counted_same t.before t.first) e u.before kept u.first inner.0 (room_by q.machine m d k t.before t.first parts.0)
