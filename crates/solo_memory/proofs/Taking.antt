-- What a claim leaves of the words that it found, by the list of its steps.
use Rattle.std.proofs.Common.{◌≡◌, ◌≢◌, ℕ, ◌+◌, ◌-◌, ◌/◌, ◌^◌, ◌<◌, ◌≤◌, ◌++◌, if◌then◌else◌, true, List, length, Option, Some, None, Result, Ok, Err, refl, ap, ◌∙◌, subst, inl, inr, arith}
use Rattle.std.proofs.lemmas.Bool.{cases_eq}
use Rattle.xp_words.specs.Machine.{Machine}
use Rattle.xp_words.specs.RefWords.{ref_write}
use Rattle.xp_words.specs.declared.place.Place.{Place}
use Rattle.xp_words.specs.declared.place.Place.TheVariants.{Cell, M2p, Map, Pages, Refs}
use Rattle.xp_words.specs.declared.refs.RefWord.TheVariants.{Owned}
use Rattle.xp_words.specs.declared.reply.Refusal.{Refusal}
use Rattle.xp_words.specs.declared.reply.Refusal.TheVariants as refusals
use Rattle.xp_words.specs.declared.reply.Stop.{Stop}
use Rattle.xp_words.specs.declared.reply.Stop.TheVariants.{Refused}
use Rattle.xp_board.specs.Acts.{left_by}
use Rattle.xp_board.specs.HintSteps.{map_bit}
use Rattle.xp_board.specs.Told.{Post}
use Rattle.xp_board.specs.declared.step.Act.TheVariants.{Add, Store}
use Rattle.xp_board.proofs.PlaceTests.{is_same-refl}
use Rattle.step_maker.specs.Plain.{Words}
use Rattle.step_maker.specs.Reasons.{Those}
use Rattle.step_maker.specs.Visits.{Only, Then, Visit, visit}
use Rattle.flush_waits.specs.Listing.{WaitedFor}
use Rattle.flush_waits.specs.Waiting.{everyone}
use Rattle.frame_claims.specs.Blocks.{numbered}
use Rattle.frame_claims.specs.Choosing.{greatest}
use Rattle.frame_claims.specs.Found as founds
use Rattle.frame_claims.specs.Found.{AllGivenBy, ChargedBy, ChosenBy, ClaimsBy, FlushedFor, FreeBlock, GivenBy, LoweredBy, NamedBy, OwnedBy, RefundedBy, ScrubbedBy, ScrubsOne, TakenBy, TakesOne, TookBy, Upwards, refunds_pages, saw_pages}
use Rattle.frame_claims.proofs.Plainly.{charged_away, chosen_looks}
use Rattle.frame_claims.proofs.Telling.{Alls, IsAway, IsLook, after_parts, alls_down, alls_one, alls_then, alls_up, away_same, words_after}
use Rattle.frame_claims.proofs.Waiting.{IsAside, waited_all}
use Rattle.xp_board.specs.Lists.{EachOf}
use Rattle.xp_board.proofs.HandLists.{EachOf-map}

-- what stays behind lists of steps that do not change it
pub away_stays : (p : Place) (P : List Visit → Type 0) → Alls (IsAway p) P → (m : Words) (vs : List Visit) → P vs → words_after m vs p ≡ m p
away_stays p P all m vs like = away_same p m vs (all vs like)

pub behind_stays : (p : Place) (m : Words) (xs ys : List Visit) → EachOf (IsAway p) ys → words_after m (ys ++ xs) p ≡ words_after m xs p
behind_stays p m xs ys all = ap (λ (k : Words). k p) (after_parts m xs ys) ∙ away_same p (words_after m xs) ys all

-- ---- upwards: one sets the word, and those behind it leave it
module _ (P : ℕ → List Visit → Type 0) (p : Place) (x j : ℕ) (sets : (m : Words) (vs : List Visit) → P j vs → words_after m vs p ≡ x) (others : (i : ℕ) → i ≢ j → Alls (IsAway p) (P i)) where
  pub up_sets : (m : Words) (from n : ℕ) (vs : List Visit) → Upwards P from n vs → from ≤ j → j < n → words_after m vs p ≡ x
  up_sets m from _ _ (founds.Upwards.starts vs is) low high = absurd (omega arith)
  up_sets m from _ _ (founds.Upwards.goes_up n before now vs earlier here is) low high =
      ap (λ us. words_after m us p) is
      ∙ elim (cases_eq n j) [
        | inl same ↦ ap (λ (k : Words). k p) (after_parts m before now) ∙ sets (words_after m before) now (subst (λ i. P i now) same here)
        | inr off ↦ behind_stays p m before now (others n off now here) ∙ up_sets m from n before earlier low (omega (arith, high, off))
      ]

-- ---- a frame is given
-- the step at the end of a list
stored : (q : Place) (y x : ℕ) (m : Words) (vs : List Visit) → Only (visit q (Store y) x) vs → words_after m vs q ≡ y
unfolding left_by
stored q y x m vs is = ap (λ us. words_after m us q) is ∙ ap (λ b. if b then y else m q) (is_same-refl q)

module _ (d f g : ℕ) where
  -- other places
  scrubbed_away : (p : Place) → ((i : ℕ) → Cell f i ≢ p) → Alls (IsAway p) (ScrubbedBy f)
  scrubbed_away p off vs t = alls_up (IsAway p) (λ i us. ScrubsOne f i us) 0 512 (λ i us s. alls_one (IsAway p) (visit (Cell f i) (Store 0) s.0) (inr (off i)) us s.1) vs t

  named_away : (p : Place) → M2p f ≢ p → Alls (IsAway p) (NamedBy f g)
  named_away p off vs t = alls_one (IsAway p) (visit (M2p f) (Store g) t.0) (inr off) vs t.1

  lowered_away : (p : Place) → Map (f / 64) ≢ p → Alls (IsAway p) (LoweredBy f)
  lowered_away p off vs t = alls_one (IsAway p) (visit (Map (f / 64)) (Add (2 ^ 64 - map_bit f)) t.0) (inr off) vs t.1

  owned_away : (p : Place) → Refs f ≢ p → Alls (IsAway p) (OwnedBy d f)
  owned_away p off vs t = alls_one (IsAway p) (visit (Refs f) (Store (ref_write (Owned d true 1))) t.0) (inr off) vs t.1

  pub given_away : (p : Place) → ((i : ℕ) → Cell f i ≢ p) → M2p f ≢ p → Map (f / 64) ≢ p → Refs f ≢ p → Alls (IsAway p) (GivenBy d f g)
  given_away p cell maps map refs vs t =
      alls_then (IsAway p) (ScrubbedBy f) (Then (NamedBy f g) (Then (LoweredBy f) (OwnedBy d f))) (scrubbed_away p cell)
      (λ us s. alls_then (IsAway p) (NamedBy f g) (Then (LoweredBy f) (OwnedBy d f)) (named_away p maps)
      (λ ws r. alls_then (IsAway p) (LoweredBy f) (OwnedBy d f) (lowered_away p map) (owned_away p refs) ws r) us s) vs t

  -- its own
  pub given_refs : (m : Words) (vs : List Visit) → GivenBy d f g vs → words_after m vs (Refs f) ≡ ref_write (Owned d true 1)
  given_refs m vs t =
      let a = t.next in
      let b = a.next in
      ap (λ us. words_after m us (Refs f)) (t.list ∙ ap (λ us. us ++ t.before) (a.list ∙ ap (λ us. us ++ a.before) b.list))
      ∙ ap (λ (k : Words). k (Refs f)) (after_parts m t.before ((b.after ++ b.before) ++ a.before) ∙ after_parts (words_after m t.before) a.before (b.after ++ b.before) ∙ after_parts (words_after (words_after m t.before) a.before) b.before b.after)
      ∙ stored (Refs f) (ref_write (Owned d true 1)) b.next.0 _ b.after b.next.1

  pub given_maps : (m : Words) (vs : List Visit) → GivenBy d f g vs → words_after m vs (M2p f) ≡ g
  given_maps m vs t =
      let a = t.next in
      let b = a.next in
      ap (λ us. words_after m us (M2p f)) (t.list ∙ ap (λ us. us ++ t.before) a.list)
      ∙ ap (λ (k : Words). k (M2p f)) (after_parts m t.before (a.after ++ a.before))
      ∙ behind_stays (M2p f) (words_after m t.before) a.before a.after (alls_then (IsAway (M2p f)) (LoweredBy f) (OwnedBy d f) (lowered_away (M2p f) (λ e. absurd cc)) (owned_away (M2p f) (λ e. absurd cc)) a.after b)
      ∙ stored (M2p f) g a.first.0 _ a.before a.first.1

  pub given_cells : (i : ℕ) → i < 512 → (m : Words) (vs : List Visit) → GivenBy d f g vs → words_after m vs (Cell f i) ≡ 0
  given_cells i few m vs t =
      let p = Cell f i in
      ap (λ us. words_after m us p) t.list
      ∙ behind_stays p m t.before t.after
      (alls_then (IsAway p) (NamedBy f g) (Then (LoweredBy f) (OwnedBy d f)) (named_away p (λ e. absurd cc))
      (λ ws r. alls_then (IsAway p) (LoweredBy f) (OwnedBy d f) (lowered_away p (λ e. absurd cc)) (owned_away p (λ e. absurd cc)) ws r) t.after t.next)
      ∙ up_sets (λ k us. ScrubsOne f k us) p 0 i (λ k us s. stored p 0 s.0 k us s.1) (λ k off us s. alls_one (IsAway p) (visit (Cell f k) (Store 0) s.0) (inr (λ e. off cc)) us s.1) m 0 512 t.before t.first (omega arith) few

-- ---- the block is taken
module _ (p : Place) (aside : (x : Place) → IsAside x → x ≢ p) (pages : (d : ℕ) → Pages d ≢ p) where
  chosen_away : (n : Machine) (k : ℕ) (o : Option FreeBlock) → Alls (IsAway p) (λ vs. ChosenBy n k o vs)
  chosen_away n k o vs t = EachOf-map IsLook (IsAway p) vs (λ s look. inl look) (chosen_looks n k o vs t)

  flushed_away : (q : Post) (k : ℕ) (b : FreeBlock) (answer : Result (Unit {0}) Stop) → Alls (IsAway p) (λ vs. FlushedFor q k b answer vs)
  flushed_away q k b answer vs t =
      alls_then (IsAway p) (λ us. ChosenBy q.machine k (Some b) us) (λ us. WaitedFor q (Those everyone) (greatest b.stamps) answer us) (chosen_away q.machine k (Some b))
      (λ us s. waited_all (IsAway p) (λ x is. inr (aside x.place is)) q (Those everyone) (greatest b.stamps) answer us s) vs t

  refunded_away : (d k : ℕ) → Alls (IsAway p) (RefundedBy d k)
  refunded_away d k vs t = alls_one (IsAway p) (refunds_pages d k t.0) (inr (pages d)) vs t.1

  module _ (refs : (f : ℕ) → Refs f ≢ p) where
    taken_away : (n : Machine) (d f : ℕ) (stamps : List ℕ) → Alls (IsAway p) (λ vs. TakenBy n d f stamps (Ok tt) vs)
    taken_away n d f stamps vs t = alls_down (IsAway p) (TakesOne d f stamps) (length stamps) 0 (λ i us s. alls_one (IsAway p) _ (inr (refs (f + i))) us s) vs t

    took_away : (q : Post) (d k f : ℕ) → Alls (IsAway p) (λ vs. TookBy q d k (Ok f) vs)
    took_away q d k f vs t =
        let b : FreeBlock = record { first = f; stamps = t.0 } in
        alls_then (IsAway p) (λ us. FlushedFor q k b (Ok tt) us) (λ us. TakenBy q.machine d f t.0 (Ok tt) us) (flushed_away q k b (Ok tt)) (taken_away q.machine d f t.0) vs t.1

    -- a claim changes none of these
    pub claim_away : (q : Post) (d k : ℕ) (g : Option ℕ) (f : ℕ) → ((h i : ℕ) → Cell h i ≢ p) → ((h : ℕ) → M2p h ≢ p) → ((h : ℕ) → Map h ≢ p) → Alls (IsAway p) (λ vs. ClaimsBy q d k g (Ok f) vs)
    claim_away q d k g f cells maps map vs t =
        alls_then (IsAway p) (λ us. ChargedBy q.machine d k (Ok tt) us) (Then (λ us. TookBy q d k (Ok f) us) (AllGivenBy d f g k)) (charged_away q.machine d k p (pages d))
        (λ us s. alls_then (IsAway p) (λ ws. TookBy q d k (Ok f) ws) (AllGivenBy d f g k) (took_away q d k f)
        (λ ws a. alls_up (IsAway p) (λ i xs. GivenBy d (f + i) (numbered g i) xs) 0 k (λ i xs b. given_away d (f + i) (numbered g i) p (cells (f + i)) (maps (f + i)) (map ((f + i) / 64)) (refs (f + i)) xs b) ws a) us s) vs t

  -- and one that is refused changes only pages
  charge_refused : (n : Machine) (d k : ℕ) (y : Refusal) → Alls (IsAway p) (λ vs. ChargedBy n d k (Err (Refused y)) vs)
  charge_refused n d k (refusals.DomainFull x) vs t = alls_one (IsAway p) (saw_pages d x) (inl refl) vs t.1
  charge_refused n d k _ vs t = absurd t

  took_refused : (q : Post) (d k : ℕ) (y : Refusal) → Alls (IsAway p) (λ vs. TookBy q d k (Err (Refused y)) vs)
  took_refused q d k y vs (inl none) = chosen_away q.machine k None vs none.1
  took_refused q d k y vs (inr (inl wait)) = flushed_away q k wait.0 (Err (Refused y)) vs wait.1
  took_refused q d k y vs (inr (inr lost)) = absurd lost.1.next

  pub refused_away : (q : Post) (d k : ℕ) (g : Option ℕ) (y : Refusal) → Alls (IsAway p) (λ vs. ClaimsBy q d k g (Err (Refused y)) vs)
  refused_away q d k g y vs (inl charge) = charge_refused q.machine d k y vs charge
  refused_away q d k g y vs (inr t) =
      alls_then (IsAway p) (λ us. ChargedBy q.machine d k (Ok tt) us) (Then (λ us. TookBy q d k (Err (Refused y)) us) (RefundedBy d k)) (charged_away q.machine d k p (pages d))
      (λ us s. alls_then (IsAway p) (λ ws. TookBy q d k (Err (Refused y)) ws) (RefundedBy d k) (took_refused q d k y) (refunded_away d k) us s) vs t

-- ---- what is given at the end
module _ (q : Post) (d k : ℕ) (g : Option ℕ) (f j : ℕ) (p : Place) (y : ℕ) (low : j < k) (sets : (m : Words) (vs : List Visit) → GivenBy d (f + j) (numbered g j) vs → words_after m vs p ≡ y)
    (others : (i : ℕ) → i ≢ j → Alls (IsAway p) (GivenBy d (f + i) (numbered g i))) where
  claim_sets : (m : Words) (vs : List Visit) → ClaimsBy q d k g (Ok f) vs → words_after m vs p ≡ y
  claim_sets m vs t =
      let u = t.next in
      ap (λ us. words_after m us p) (t.list ∙ ap (λ us. us ++ t.before) u.list)
      ∙ ap (λ (n : Words). n p) (after_parts m t.before (u.after ++ u.before) ∙ after_parts (words_after m t.before) u.before u.after)
      ∙ up_sets (λ i us. GivenBy d (f + i) (numbered g i) us) p y j sets others (words_after (words_after m t.before) u.before) 0 k u.after u.next (omega arith) low

module _ (q : Post) (d k : ℕ) (g : Option ℕ) (f j : ℕ) (low : j < k) (m : Words) (vs : List Visit) (claims : ClaimsBy q d k g (Ok f) vs) where
  apart : (i : ℕ) → i ≢ j → f + i ≢ f + j
  apart i off e = off (omega (arith, e))

  pub claim_refs : words_after m vs (Refs (f + j)) ≡ ref_write (Owned d true 1)
  claim_refs =
      claim_sets q d k g f j (Refs (f + j)) (ref_write (Owned d true 1)) low (given_refs d (f + j) (numbered g j))
      (λ i off us s. given_away d (f + i) (numbered g i) (Refs (f + j)) (λ h e. absurd cc) (λ e. absurd cc) (λ e. absurd cc) (λ e. apart i off cc) us s) m vs claims

  pub claim_maps : words_after m vs (M2p (f + j)) ≡ numbered g j
  claim_maps =
      claim_sets q d k g f j (M2p (f + j)) (numbered g j) low (given_maps d (f + j) (numbered g j))
      (λ i off us s. given_away d (f + i) (numbered g i) (M2p (f + j)) (λ h e. absurd cc) (λ e. apart i off cc) (λ e. absurd cc) (λ e. absurd cc) us s) m vs claims

  pub claim_cells : (i : ℕ) → i < 512 → words_after m vs (Cell (f + j) i) ≡ 0
  claim_cells c few =
      claim_sets q d k g f j (Cell (f + j) c) 0 low (given_cells d (f + j) (numbered g j) c few)
      (λ i off us s. given_away d (f + i) (numbered g i) (Cell (f + j) c) (λ h e. apart i off cc) (λ e. absurd cc) (λ e. absurd cc) (λ e. absurd cc) us s) m vs claims
