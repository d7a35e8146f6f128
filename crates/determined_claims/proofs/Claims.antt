-- A claim as a whole is determined by the words that are found.
use Rattle.std.proofs.Common.{◌≡◌, ℕ, ◌<◌, List, [], length, Option, Some, None, Result, Ok, Err, refl, ap, inl, inr}
use Rattle.xp_words.specs.declared.reply.Refusal.TheVariants.{NoFree}
use Rattle.xp_words.specs.declared.reply.Stop.{Stop}
use Rattle.xp_words.specs.declared.reply.Stop.TheVariants.{Refused}
use Rattle.xp_board.specs.Told.{Post}
use Rattle.step_maker.specs.Reasons.{Those}
use Rattle.step_maker.specs.Visits.{Then, Visit}
use Rattle.flush_waits.specs.Listing.{WaitedFor}
use Rattle.flush_waits.specs.Waiting.{everyone}
use Rattle.frame_claims.specs.Choosing.{greatest}
use Rattle.frame_claims.specs.Found.{AllGivenBy, ChargedBy, ChosenBy, ClaimsBy, FlushedFor, FreeBlock, RefundedBy, TakenBy, TookBy}
use Rattle.determined_laws.specs.Forks.{Tie}
use Rattle.determined_laws.proofs.Waited.{waited_tie}
use Rattle.determined_tables.proofs.Entries.{NoMore, Parted, So, alone, none_tie, parted_tie, so_tie, then_map}
use Rattle.determined_tables.proofs.Leaves.{begins_with}
use Rattle.determined_claims.proofs.Choosing.{chosen_tie}
use Rattle.determined_claims.proofs.Parts.{joined_last}
use Rattle.determined_claims.proofs.Taking.{all_given_tie, charged_tie, charged_view, refunded_tie, taken_tie}

module _ (q : Post) (d k : ℕ) (g : Option ℕ) where
  -- ---- a block is chosen, its flush awaited, and it is taken
  abbrev Ended : FreeBlock → Result (Unit {0}) Stop → Result ℕ Stop → List Visit → Type 0
  Ended b (Ok done) a vs = NoMore (Ok b.first) a vs
  Ended b (Err e) a vs = NoMore (Err e) a vs

  abbrev Waited : FreeBlock → Result (Unit {0}) Stop → Result ℕ Stop → List Visit → Type 0
  Waited b (Ok done) a vs = Parted (TakenBy q.machine d b.first b.stamps) (Ended b) a vs
  Waited b (Err e) a vs = NoMore (Err e) a vs

  abbrev Waits : FreeBlock → Result (Unit {0}) Stop → List Visit → Type 0
  Waits b r vs = WaitedFor q (Those everyone) (greatest b.stamps) r vs

  abbrev Chose : Option FreeBlock → Result ℕ Stop → List Visit → Type 0
  Chose None a vs = NoMore (Err (Refused NoFree)) a vs
  Chose (Some b) a vs = Parted (Waits b) (Waited b) a vs

  abbrev Took : Result ℕ Stop → List Visit → Type 0
  Took a vs = Parted (ChosenBy q.machine k) Chose a vs

  took_block : (b : FreeBlock) (r : Result (Unit {0}) Stop) (a : Result ℕ Stop) (vs : List Visit) → Then (FlushedFor q k b (Ok tt)) (TakenBy q.machine d b.first b.stamps r) vs → Ended b r a [] → Took a vs
  took_block b r a vs t e = record { answer = Some b; parts = then_map (joined_last t) (λ us u. record { answer = Ok tt; parts = then_map u (λ ts s. record { answer = r; parts = alone s e }) }) }

  took_view : (a : Result ℕ Stop) (vs : List Visit) → TookBy q d k a vs → Took a vs
  took_view (Ok f) vs p = took_block (record { first = f; stamps = p.0 }) (Ok tt) (Ok f) vs p.1 (refl, refl)
  took_view (Err e) vs (inl p) = record { answer = None; parts = alone p.1 (ap (λ z. Err z) p.0, refl) }
  took_view (Err e) vs (inr (inl p)) = record { answer = Some p.0; parts = then_map p.1 (λ us w. record { answer = Err e; parts = alone w (refl, refl) }) }
  took_view (Err e) vs (inr (inr p)) = took_block p.0 (Err e) (Err e) vs p.1 (refl, refl)

  -- ---- the pages are counted first; and then it is given, or their count taken back
  abbrev Given : Result ℕ Stop → Result ℕ Stop → List Visit → Type 0
  Given (Ok f) a vs = So (Ok f) (AllGivenBy d f g k) a vs
  Given (Err e) a vs = So (Err e) (RefundedBy d k) a vs

  abbrev Charged : Result (Unit {0}) Stop → Result ℕ Stop → List Visit → Type 0
  Charged (Ok done) a vs = Parted (TookBy q d k) Given a vs
  Charged (Err e) a vs = NoMore (Err e) a vs

  claims_view : (a : Result ℕ Stop) (vs : List Visit) → ClaimsBy q d k g a vs → Parted (ChargedBy q.machine d k) Charged a vs
  claims_view (Ok f) vs p = record { answer = Ok tt; parts = then_map p (λ us t. record { answer = Ok f; parts = then_map t (λ ts s. (refl, s)) }) }
  claims_view (Err e) vs (inl p) = record { answer = Err e; parts = alone p (refl, refl) }
  claims_view (Err e) vs (inr p) = record { answer = Ok tt; parts = then_map p (λ us t. record { answer = Err e; parts = then_map t (λ ts s. (refl, s)) }) }

  -- it makes a step at least: the look at the pages
  pub claims_some : (a : Result ℕ Stop) → ClaimsBy q d k g a [] → ⊥
  claims_some a p =
      let c = claims_view a [] p in
      let t = c.parts in
      let h = charged_view q.machine d k c.answer t.before t.first in
      begins_with _ _ (joined_last {R = Charged c.answer a} (record { before = t.before; after = t.after; first = h.parts; next = t.next; list = t.list }))

  -- ---- where the vCPU is one of the machine's
  module _ (real : q.vcpu < length q.machine.vcpu_domain) where
    ended_tie : (b : FreeBlock) (r : Result (Unit {0}) Stop) (a c : Result ℕ Stop) (us vs : List Visit) → Ended b r a us → Ended b r c vs → Tie us vs (a ≡ c)
    ended_tie b (Ok done) a c us vs p s = none_tie (Ok b.first) a c us vs p s
    ended_tie b (Err e) a c us vs p s = none_tie (Err e) a c us vs p s

    waits_tie : (b : FreeBlock) (r : Result (Unit {0}) Stop) (a c : Result ℕ Stop) (us vs : List Visit) → Waited b r a us → Waited b r c vs → Tie us vs (a ≡ c)
    waits_tie b (Ok done) a c us vs p s = parted_tie (taken_tie q.machine d b.first b.stamps) (ended_tie b) a c us vs p s
    waits_tie b (Err e) a c us vs p s = none_tie (Err e) a c us vs p s

    chose_tie : (o : Option FreeBlock) (a c : Result ℕ Stop) (us vs : List Visit) → Chose o a us → Chose o c vs → Tie us vs (a ≡ c)
    chose_tie None a c us vs p s = none_tie (Err (Refused NoFree)) a c us vs p s
    chose_tie (Some b) a c us vs p s = parted_tie (waited_tie q (Those everyone) (greatest b.stamps) real) (waits_tie b) a c us vs p s

    took_tie : (a c : Result ℕ Stop) (us vs : List Visit) → TookBy q d k a us → TookBy q d k c vs → Tie us vs (a ≡ c)
    took_tie a c us vs p s = parted_tie (chosen_tie q.machine k) chose_tie a c us vs (took_view a us p) (took_view c vs s)

    gives_tie : (r a c : Result ℕ Stop) (us vs : List Visit) → Given r a us → Given r c vs → Tie us vs (a ≡ c)
    gives_tie (Ok f) a c us vs p s = so_tie (all_given_tie d f g k) (Ok f) a c us vs p s
    gives_tie (Err e) a c us vs p s = so_tie (refunded_tie d k) (Err e) a c us vs p s

    charges_tie : (r : Result (Unit {0}) Stop) (a c : Result ℕ Stop) (us vs : List Visit) → Charged r a us → Charged r c vs → Tie us vs (a ≡ c)
    charges_tie (Ok done) a c us vs p s = parted_tie took_tie gives_tie a c us vs p s
    charges_tie (Err e) a c us vs p s = none_tie (Err e) a c us vs p s

    pub claims_tie : (a c : Result ℕ Stop) (us vs : List Visit) → ClaimsBy q d k g a us → ClaimsBy q d k g c vs → Tie us vs (a ≡ c)
    claims_tie a c us vs p s = parted_tie (charged_tie q.machine d k) charges_tie a c us vs (claims_view a us p) (claims_view c vs s)
