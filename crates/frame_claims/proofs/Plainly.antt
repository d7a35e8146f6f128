-- A claim on a board that tells all words, by the list of its steps.
use Rattle.std.proofs.Common.{◌≡◌, ◌≢◌, ℕ, ◌+◌, ◌-◌, ◌*◌, ◌/◌, ◌^◌, ◌≤◌, Bool, true, false, List, length, slice_index, Option, Some, None, Ok, Err, refl, sym, ap, subst, inl, inr, arith}
use Rattle.xp_words.specs.Machine.{Machine}
use Rattle.xp_words.specs.Places.{map_words, sizes_of}
use Rattle.xp_words.specs.declared.place.Place.{Place}
use Rattle.xp_words.specs.declared.place.Place.TheVariants.{Clock, Pages, Vcpu, Priv}
use Rattle.xp_words.specs.declared.reply.Pause.TheVariants.{Lost}
use Rattle.xp_words.specs.declared.reply.Refusal.TheVariants as refusals
use Rattle.xp_words.specs.declared.reply.Stop.{Stop}
use Rattle.xp_words.specs.declared.reply.Stop.TheVariants.{Refused, Paused}
use Rattle.step_maker.specs.Plain.{Words}
use Rattle.step_maker.specs.Visits.{Visit, Only, Then}
use Rattle.frame_claims.specs.Blocks.{numbered}
use Rattle.frame_claims.specs.Found.{AllGivenBy, BlockBy, ChargedBy, ChosenBy, FreeAt, FreeBlock, FullBy, GivenBy, HintedBy, InWordBy, LoweredBy, NamedBy, OwnedBy, PassBy, RunBy, SawFree, SawFull, SawTaken, ScannedBy, ScrubbedBy, ScrubsOne, TakenBy, TakesOne, TriedBy, TriedWhere, Upwards, WordBy, counts_pages, saw_map, saw_pages, saw_refs}
use Rattle.frame_claims.specs.Plain.{ClaimsPlainly, HasRoom, ref_look}
use Rattle.frame_claims.proofs.Telling.{AllTold, Alls, IsAway, IsLook, IsNoRefLook, alls_down, alls_first, alls_nothing, alls_one, alls_then, alls_up, told_parts}
use Rattle.frame_claims.proofs.Waiting.{IsAside}

-- ---- the choice makes looks alone
tried_looks : (k f : ℕ) (o : Option FreeBlock) → Alls IsLook (λ vs. TriedBy k f o vs)
tried_looks k f None vs t =
    alls_then IsLook (λ us. Upwards (λ j ws. SawFree (f + j) ws) 0 t.0 us) (λ us. SawTaken (f + t.0) us) (λ us up. alls_up IsLook (λ j ws. SawFree (f + j) ws) 0 t.0 (λ j ws s. alls_one IsLook (saw_refs (f + j) s.0) refl ws s.2) us up)
    (λ us s. alls_one IsLook (saw_refs (f + t.0) s.0) refl us s.2) vs t.2
tried_looks k f (Some b) vs t = alls_up IsLook (FreeAt f b.stamps) 0 (length b.stamps) (λ j ws s. alls_one IsLook (saw_refs (f + j) (slice_index b.stamps j)) refl ws s.1) vs t.2

where_looks : (b : Bool) (k f : ℕ) (o : Option FreeBlock) → Alls IsLook (λ vs. TriedWhere b k f o vs)
where_looks true k f o vs t = tried_looks k f o vs t
where_looks false k f o vs t = alls_nothing IsLook vs t.1

full_looks : (first count : ℕ) (b : Bool) → Alls IsLook (λ vs. FullBy first count b vs)
full_looks first count true vs t = alls_up IsLook SawFull first (first + count) (λ w. alls_one IsLook (saw_map w (2 ^ 64 - 1)) refl) vs t
full_looks first count false vs t =
    alls_then IsLook (Upwards SawFull first t.0) (λ us. (x : ℕ) × (x ≢ 2 ^ 64 - 1) × Only (saw_map t.0 x) us) (alls_up IsLook SawFull first t.0 (λ w. alls_one IsLook (saw_map w (2 ^ 64 - 1)) refl))
    (λ us o. alls_one IsLook (saw_map t.0 o.0) refl us o.2) vs t.3

word_looks : (n : Machine) (k w : ℕ) (o : Option FreeBlock) → Alls IsLook (λ vs. WordBy n k w o vs)
word_looks n k w o vs t =
    alls_then IsLook (Only (saw_map w t.0)) (λ us. InWordBy n k w t.0 o us) (alls_one IsLook (saw_map w t.0) refl)
    (λ us f. alls_first IsLook (BlockBy n k w t.0) (64 / k) o (λ at p. where_looks _ k (64 * w + k * at) p) us f) vs t.1

run_looks : (words block : ℕ) (o : Option FreeBlock) → Alls IsLook (λ vs. RunBy words block o vs)
run_looks words block o vs t =
    alls_then IsLook (FullBy (block * words) words t.0) (TriedWhere t.0 (64 * words) (block * (64 * words)) o) (full_looks (block * words) words t.0) (where_looks t.0 (64 * words) (block * (64 * words)) o) vs t.1

hinted_looks : (n : Machine) (k : ℕ) (o : Option FreeBlock) → Alls IsLook (λ vs. HintedBy n k o vs)
hinted_looks n k o vs (inl t) = alls_first IsLook (WordBy n k) (map_words (sizes_of n)) o (λ w p. word_looks n k w p) vs t.1
hinted_looks n k o vs (inr t) = alls_first IsLook (RunBy (k / 64)) (n.frames / k) o (λ b p. run_looks (k / 64) b p) vs t.1

scanned_looks : (n : Machine) (k : ℕ) (o : Option FreeBlock) → Alls IsLook (λ vs. ScannedBy n k o vs)
scanned_looks n k o vs t = alls_first IsLook (PassBy k) (n.frames / k) o (λ b p. tried_looks k (b * k) p) vs t

pub chosen_looks : (n : Machine) (k : ℕ) (o : Option FreeBlock) → Alls IsLook (λ vs. ChosenBy n k o vs)
chosen_looks n k None vs t = alls_then IsLook (HintedBy n k None) (ScannedBy n k None) (hinted_looks n k None) (scanned_looks n k None) vs t
chosen_looks n k (Some b) vs (inl t) = hinted_looks n k (Some b) vs t
chosen_looks n k (Some b) vs (inr t) = alls_then IsLook (HintedBy n k None) (ScannedBy n k (Some b)) (hinted_looks n k None) (scanned_looks n k (Some b)) vs t

-- ---- what looks at no reference word
pub aside_quiet : (x : Visit) → IsAside x.place → IsNoRefLook x
aside_quiet x aside = by x.place aside
  where
    by : (p : Place) → IsAside p → ref_look p x.act ≡ 0
    by Clock a = refl
    by (Vcpu u k) a = refl
    by (Priv d) a = refl
    by _ a = absurd a

pub charged_quiet : (n : Machine) (d k : ℕ) → Alls IsNoRefLook (λ vs. ChargedBy n d k (Ok tt) vs)
charged_quiet n d k vs t =
    alls_then IsNoRefLook (Only (saw_pages d t.0)) (Only (counts_pages d k t.0 t.0)) (alls_one IsNoRefLook (saw_pages d t.0) refl) (alls_one IsNoRefLook (counts_pages d k t.0 t.0) refl) vs t.2

pub taken_quiet : (n : Machine) (d f : ℕ) (stamps : List ℕ) → Alls IsNoRefLook (λ vs. TakenBy n d f stamps (Ok tt) vs)
taken_quiet n d f stamps vs t = alls_down IsNoRefLook (TakesOne d f stamps) (length stamps) 0 (λ i ws s. alls_one IsNoRefLook _ refl ws s) vs t

pub given_quiet : (d f : ℕ) (g : Option ℕ) (k : ℕ) → Alls IsNoRefLook (λ vs. AllGivenBy d f g k vs)
given_quiet d f g k vs t = alls_up IsNoRefLook (λ i us. GivenBy d (f + i) (numbered g i) us) 0 k (λ i. one (f + i) (numbered g i)) vs t
  where
    one : (h j : ℕ) → Alls IsNoRefLook (λ us. GivenBy d h j us)
    one h j us t =
        alls_then IsNoRefLook (ScrubbedBy h) (Then (NamedBy h j) (Then (LoweredBy h) (OwnedBy d h))) (λ ws s. alls_up IsNoRefLook (ScrubsOne h) 0 512 (λ i xs o. alls_one IsNoRefLook _ refl xs o.1) ws s)
        (λ ws s. alls_then IsNoRefLook (NamedBy h j) (Then (LoweredBy h) (OwnedBy d h)) (λ xs o. alls_one IsNoRefLook _ refl xs o.1)
        (λ xs r. alls_then IsNoRefLook (LoweredBy h) (OwnedBy d h) (λ ys o. alls_one IsNoRefLook _ refl ys o.1) (λ ys o. alls_one IsNoRefLook _ refl ys o.1) xs r) ws s) us t

-- ---- words that the count of pages leaves
pub charged_away : (n : Machine) (d k : ℕ) (p : Place) → Pages d ≢ p → Alls (IsAway p) (λ vs. ChargedBy n d k (Ok tt) vs)
charged_away n d k p off vs t =
    alls_then (IsAway p) (Only (saw_pages d t.0)) (Only (counts_pages d k t.0 t.0)) (alls_one (IsAway p) (saw_pages d t.0) (inl refl)) (alls_one (IsAway p) (counts_pages d k t.0 t.0) (inr off)) vs t.2

-- the first look at the pages
saw_first : (m : Words) (d p : ℕ) (vs : List Visit) → Only (saw_pages d p) vs → AllTold m vs → p ≡ m (Pages d)
saw_first m d p vs is told = (subst (AllTold m) is told).0

module _ (n : Machine) (m : Words) (d k : ℕ) where
  pub room_by : (vs : List Visit) → ChargedBy n d k (Ok tt) vs → AllTold m vs → HasRoom n m d k
  room_by vs t told =
      let p = t.2 in
      let is = saw_first m d t.0 p.before p.first (told_parts m p.before p.after (subst (AllTold m) p.list told)).0 in
      subst (λ x. x + k ≤ slice_index n.page_limit d) is t.1

  pub charge_stops : (e : Stop) (vs : List Visit) → ((place s x : ℕ) → e ≡ Paused (Lost place s x) → ⊥) → ChargedBy n d k (Err e) vs → AllTold m vs → ClaimsPlainly n m d k (Err e)
  charge_stops (Refused (refusals.DomainFull p)) vs kept t told =
      let is = saw_first m d p vs t.1 told in
      (is, λ room. (let over = t.0 in let e : m (Pages d) + k ≡ p + k = ap (λ x. x + k) (sym is) in omega (arith, over, room, e)))
  charge_stops (Refused _) vs kept t told = absurd t
  charge_stops (Paused (Lost place s x)) vs kept t told = absurd (kept place s x refl)
  charge_stops (Paused _) vs kept t told = absurd t
