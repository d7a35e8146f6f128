-- A descriptor is written by few steps: those that take its frame, and some more.
use Rattle.std.proofs.Common.{ℕ, ◌+◌, ◌≤◌, Bool, true, false, length, Result, Err, arith}
use Rattle.xp_words.specs.declared.kind.PageType.{PageType}
use Rattle.xp_words.specs.declared.kind.PageType.TheVariants.{Writable}
use Rattle.xp_words.specs.declared.reply.Stop.{Stop}
use Rattle.xp_board.specs.Told.{PortValue}
use Rattle.frame_words.specs.Freeing.{PutBy}
use Rattle.frame_types.specs.Found.{DeadBy, Dies, SharedBy, StoresKind, TypeBy}
use Rattle.frame_types.specs.Plain.{is_refused}
use Rattle.frame_types.specs.declared.taking.Taken.TheVariants.{Counted, Waiting}
use Rattle.kind_words.specs.Kinds.{partial_kind}
use Rattle.writable_pages.specs.Pages.{PageLeft, TookPage}
use Rattle.writable_pages.specs.Pages as pages
use Rattle.desc_pages.specs.Descriptors.{StoredUnder, TookAs}
use Rattle.desc_pages.specs.Descriptors as descriptors
use Rattle.desc_pages.specs.Pages.{IsShort}
use Rattle.desc_pages.proofs.Counting.{does_most, put_most, then_most}
use Rattle.desc_pages.proofs.Short.{dies_most, gave_short, kept_short, stores_most, took_short, type_short, untyped_most}

-- ---- a frame that is to be ordinary memory
left_short : (v w : PortValue) (f owner stamp : ℕ) (own refused : Bool) → PageLeft v w f owner stamp own refused → length w.holdings.steps ≤ length v.holdings.steps + 7
left_short v w f owner stamp true true left = does_most v w (λ vs. DeadBy f Writable vs) 7 (λ vs a. then_most (Dies f Writable true) (PutBy f) 2 5 (dies_most f Writable true) (put_most f) vs a) left
left_short v w f owner stamp true false left = let few = kept_short v w f owner (partial_kind Writable true true 0 stamp) left in omega (arith, few)
left_short v w f owner stamp false refused left =
    let few = does_most v w (λ vs. SharedBy f Writable stamp vs) 6 (λ vs a. then_most (StoresKind f (partial_kind Writable false true 0 stamp)) (PutBy f) 1 5 (stores_most f (partial_kind Writable false true 0 stamp)) (put_most f) vs a) left in
    omega (arith, few)

page_short : (v w : PortValue) (f owner : ℕ) (answer : Result (Unit {0}) Stop) → TookPage v f owner w answer → IsShort v w 1040
page_short v _ f owner _ (pages.counted w took) = let few = type_short v w f owner Writable Counted took.found in omega (arith, few)
page_short v _ f owner _ (pages.untyped u w stop took gave) =
    let first = does_most v u (λ vs. TypeBy v.post f owner Writable (Err stop) vs) 2 (untyped_most v.post f owner Writable stop) took.found in
    let last = gave_short u w f gave in
    omega (arith, first, last)
page_short v _ f owner _ (pages.waiting u w own stamp stop took left) =
    let first = type_short v u f owner Writable (Waiting own stamp stop) took.found in
    let last = left_short u w f owner stamp own (is_refused stop) left.steps in
    omega (arith, first, last)

-- ---- for whichever type
pub as_short : (v w : PortValue) (f owner : ℕ) (want : PageType) (answer : Result (Unit {0}) Stop) → TookAs v f owner want w answer → IsShort v w 1040
as_short v _ f owner _ _ (descriptors.as_desc w answer took) = took_short v w f owner answer took
as_short v _ f owner _ _ (descriptors.as_memory w answer took) = page_short v w f owner answer took
