-- How a frame stands to a type, what rank its word has, and what a spelling bounds.
use Rattle.std.proofs.Common.{◌≡◌, ◌+◌, ◌<◌, ◌≤◌, ◌^◌, ◌==◌, ◌&&◌, not, if◌then◌else◌, Bool, true, false, IsTrue, refl, ap, ◌∙◌, arith}
use Rattle.std.proofs.lemmas.Bool.Decides.{nat_tests}
use Rattle.xp_words.specs.KindWords.{has_form, is_kind}
use Rattle.xp_words.specs.PageTypes.{type_number}
use Rattle.xp_words.specs.declared.kind.KindWord.{KindWord}
use Rattle.xp_words.specs.declared.kind.PageType.{PageType}
use Rattle.xp_words.specs.declared.kind.PageType.TheVariants.{Desc}
use Rattle.xp_board.specs.Readings.{is_work}
use Rattle.frame_types.specs.Standing.{is_same_type, standing_of}
use Rattle.frame_types.specs.declared.standing.Standing.{Standing}
use Rattle.frame_types.specs.declared.standing.Standing.TheVariants as stands
use Rattle.frame_ranks.specs.Ranks.{rank_of}

-- ---- how a frame stands, read back
abbrev pub StandsSo : KindWord → Standing → Type 0
StandsSo k stands.Counted = k.validated ≡ true
StandsSo k stands.Dead = (k.validated ≡ false) × (k.partial ≡ false) × (k.locked ≡ false)
StandsSo k stands.Partial = (k.validated ≡ false) × (k.partial ≡ true)
StandsSo k _ = Unit {0}

stands_by : (k : KindWord) (v p l t z : Bool) → k.validated ≡ v → k.partial ≡ p → k.locked ≡ l →
    StandsSo k (if not v && (not p && not l) then stands.Dead else if not t then stands.Other else if v then (if z then stands.Busy else stands.Counted) else if p then stands.Partial else stands.Busy)
stands_by k true p l false z a b c = tt
stands_by k true p l true true a b c = tt
stands_by k true p l true false a b c = a
stands_by k false true l false z a b c = tt
stands_by k false true l true z a b c = (a, b)
stands_by k false false true false z a b c = tt
stands_by k false false true true z a b c = tt
stands_by k false false false t z a b c = (a, b, c)

pub stands_so : (k : KindWord) (want : PageType) → StandsSo k (standing_of k want)
stands_so k want = stands_by k k.validated k.partial k.locked (is_same_type k.kind want) (k.number == 0) refl refl refl

-- ---- ranks by what the word says
module _ (k : KindWord) where
  pub rank_live : k.validated ≡ true → rank_of k ≡ 515
  rank_live live = ap (λ b. if b then 515 else if k.partial then (if k.unflushed then 1 else k.progress + 2) else if type_number k.kind == 5 then 1 else 0) live

  module _ (off : k.validated ≡ false) where
    rank_off : rank_of k ≡ (if k.partial then (if k.unflushed then 1 else k.progress + 2) else if type_number k.kind == 5 then 1 else 0)
    rank_off = ap (λ b. if b then 515 else if k.partial then (if k.unflushed then 1 else k.progress + 2) else if type_number k.kind == 5 then 1 else 0) off

    dead_by : (b : Bool) → (if b then 1 else 0) ≤ 1
    dead_by true = omega arith
    dead_by false = omega arith

    rank_none : k.partial ≡ false → rank_of k ≡ (if type_number k.kind == 5 then 1 else 0)
    rank_none none = rank_off ∙ ap (λ b. if b then (if k.unflushed then 1 else k.progress + 2) else if type_number k.kind == 5 then 1 else 0) none

    pub rank_dead : k.partial ≡ false → rank_of k ≤ 1
    rank_dead none = let e = rank_none none in let b = dead_by (type_number k.kind == 5) in omega arith

    pub rank_desc : k.partial ≡ false → k.kind ≡ Desc → rank_of k ≡ 1
    rank_desc none desc = rank_none none ∙ ap (λ t. if type_number t == 5 then 1 else 0) desc

    pub rank_partial : k.partial ≡ true → rank_of k ≡ (if k.unflushed then 1 else k.progress + 2)
    rank_partial some = rank_off ∙ ap (λ b. if b then (if k.unflushed then 1 else k.progress + 2) else if type_number k.kind == 5 then 1 else 0) some

    pub rank_waits : k.partial ≡ true → k.unflushed ≡ true → rank_of k ≡ 1
    rank_waits some marked = rank_partial some ∙ ap (λ b. if b then 1 else k.progress + 2) marked

    rank_by : (b : Bool) → (if b then 1 else k.progress + 2) ≤ k.progress + 2
    rank_by true = omega arith
    rank_by false = omega arith

    pub rank_within : k.partial ≡ true → rank_of k ≤ k.progress + 2
    rank_within some = let e = rank_partial some in let b = rank_by k.unflushed in omega arith

pub idle_live : (k : KindWord) → k.validated ≡ true → is_work k ≡ false
idle_live k live = ap (λ b. not b && (not k.partial && k.locked)) live

pub idle_partial : (k : KindWord) → k.validated ≡ false → k.partial ≡ true → is_work k ≡ false
idle_partial k off some = ap (λ b. not b && (not k.partial && k.locked)) off ∙ ap (λ b. not b && k.locked) some

pub idle_dead : (k : KindWord) → k.validated ≡ false → k.partial ≡ false → k.locked ≡ false → is_work k ≡ false
idle_dead k off none free = ap (λ b. not b && (not k.partial && k.locked)) off ∙ (ap (λ b. not b && k.locked) none ∙ free)

-- ---- what spellings bound
pub live_small : (k : KindWord) → IsTrue (is_kind k) → k.validated ≡ true → (k.number + 1 < 2 ^ 36) × (k.progress < 2 ^ 10)
unfolding has_form
live_small k is live = grind (arith, nat_tests)

pub partial_few : (k : KindWord) → IsTrue (is_kind k) → k.validated ≡ false → k.partial ≡ true → k.progress ≤ 512
unfolding has_form
partial_few k is off some = grind (arith, nat_tests)
