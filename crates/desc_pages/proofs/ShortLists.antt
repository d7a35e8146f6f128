-- A GDT is set by few steps: those of 14 descriptor pages, and some more.
use Rattle.std.proofs.Common.{◌≡◌, ℕ, zero, suc, ◌+◌, ◌*◌, ◌≤◌, ◌==◌, if◌then◌else◌, Bool, true, false, List, length, get_or, Option, Some, None, Result, Ok, Err, refl, ap, ◌∙◌, arith}
use Rattle.std.proofs.Math.Nat.{mul-le-mul_right}
use Rattle.std.proofs.lemmas.Bool.Decides.{nat_tests}
use Rattle.xp_words.specs.KindWords.{kind_fields}
use Rattle.xp_words.specs.declared.kind.PageType.{PageType}
use Rattle.xp_words.specs.declared.kind.PageType.TheVariants.{Desc}
use Rattle.xp_words.specs.declared.reply.Refusal.TheVariants as refusals
use Rattle.xp_words.specs.declared.reply.Stop.{Stop}
use Rattle.xp_words.proofs.Shared.{one_more_times as one_page_more}
use Rattle.xp_board.specs.Told.{PortValue}
use Rattle.step_maker.proofs.Coming.{came_post}
use Rattle.step_maker.specs.Visits.{Only, Then, Where}
use Rattle.frame_words.specs.Freeing.{PutBy}
use Rattle.frame_types.specs.Found.{Dies, DropsBy, DropsPlain}
use Rattle.desc_pages.specs.Gdt.{GivesPages, NamedFrom, IsShortGdt, SetsGdt, TookPages, gdt_refusal, is_bad_gdt, own_domain}
use Rattle.desc_pages.specs.Gdt as gdt
use Rattle.desc_pages.specs.Ldt.{IsShortLdt, SetsLdt, UnnamedFrom}
use Rattle.desc_pages.specs.Ldt as ldt
use Rattle.desc_pages.specs.Names.{GaveOld, NamesPage}
use Rattle.desc_pages.proofs.Counting.{IsAtMost, does_most, only_most, put_most, then_most, where_most}
use Rattle.desc_pages.proofs.Short.{dies_most, got_came, got_short, moved_once, vcpus}

-- ---- a page given back
drops_most : (f : ℕ) (want : PageType) → IsAtMost (DropsBy f want) 8
drops_most f want vs a =
    then_most (Only _) (Then (Where ((kind_fields a.0).number == 1) (Dies f want false)) (PutBy f)) 1 7 (only_most _)
    (then_most (Where ((kind_fields a.0).number == 1) (Dies f want false)) (PutBy f) 2 5 (where_most ((kind_fields a.0).number == 1) (Dies f want false) 2 (dies_most f want false)) (put_most f)) vs a.1

pub dropped_short : (v w : PortValue) (f : ℕ) (want : PageType) → DropsPlain v w f want → length w.holdings.steps ≤ length v.holdings.steps + 8
dropped_short v w f want drops = does_most v w (DropsBy f want) 8 (drops_most f want) drops

-- ---- lists of pages
abbrev each_page : PortValue → ℕ
each_page v = 1050 + 4 * vcpus v.post

pages_came : (v : PortValue) (d : ℕ) (fs : List ℕ) (k : ℕ) (w : PortValue) → TookPages v d fs k w → w.post ≡ v.post
pages_came v d fs _ _ gdt.none = refl
pages_came v d fs _ _ (gdt.more k u w rest got) = came_post u w (got_came u w (get_or fs k 0) d (Ok (get_or fs k 0)) got) ∙ pages_came v d fs k u rest

pages_short : (v : PortValue) (d : ℕ) (fs : List ℕ) (k : ℕ) (w : PortValue) → TookPages v d fs k w → length w.holdings.steps ≤ length v.holdings.steps + k * each_page v
pages_short v d fs _ _ gdt.none = omega arith
pages_short v d fs _ _ (gdt.more k u w rest got) =
    let before = pages_short v d fs k u rest in
    let here = got_short u w (get_or fs k 0) d (Ok (get_or fs k 0)) got in
    let alike = ap vcpus (pages_came v d fs k u rest) in
    let one = one_page_more k (each_page v) in
    omega (arith, before, here, alike, one)

gives_short : (fs : List ℕ) (k : ℕ) (v w : PortValue) → GivesPages fs k v w → length w.holdings.steps ≤ length v.holdings.steps + 8 * k
gives_short fs _ _ _ (gdt.none v) = omega arith
gives_short fs _ _ _ (gdt.more k v u w drops rest) =
    let first = dropped_short v u (get_or fs k 0) Desc drops in
    let below = gives_short fs k u w rest in
    omega (arith, first, below)

old_short : (v w : PortValue) (old : ℕ) → GaveOld v w old → length w.holdings.steps ≤ length v.holdings.steps + 8
old_short v w zero is = let same = ap (λ (q : PortValue). length q.holdings.steps) is in omega (arith, same)
old_short v w (suc g) drops = dropped_short v w g Desc drops

names_short : (v w : PortValue) (k : ℕ) (new : Option ℕ) → NamesPage v w k new → length w.holdings.steps ≤ length v.holdings.steps + 9
names_short v w k new n =
    let first = moved_once v n.stored _ _ _ n.old n.stores in
    let last = old_short n.stored w n.old n.gives in
    omega (arith, first, last)

named_short : (v : PortValue) (fs : List ℕ) (k : ℕ) (w : PortValue) → NamedFrom v fs k w → length w.holdings.steps + 9 * k ≤ length v.holdings.steps + 126
named_short v fs _ _ gdt.none = omega arith
named_short v fs _ _ (gdt.more k u w rest names) =
    let before = named_short v fs (k + 1) u rest in
    let here = names_short u w (8 + k) _ names in
    omega (arith, before, here)

-- ---- the whole
good_by : (b : Bool) → (if b then Some refusals.BadRange else None) ≡ None → b ≡ false
good_by true is = absurd cc
good_by false is = refl

pub few_pages : (entries n : ℕ) → is_bad_gdt entries n ≡ false → n ≤ 14
few_pages entries n good = grind (arith, nat_tests)

few_right : (entries : ℕ) (fs : List ℕ) → gdt_refusal entries fs ≡ None → length fs ≤ 14
few_right entries fs right = few_pages entries (length fs) (good_by (is_bad_gdt entries (length fs)) right)

pub sets_short : (v w : PortValue) (entries : ℕ) (fs : List ℕ) (answer : Result (Unit {0}) Stop) → SetsGdt v entries fs w answer → IsShortGdt v w
sets_short v _ entries fs _ (gdt.barred x is) = omega arith
sets_short v _ entries fs _ (gdt.untaken k a b w e right pages low got gives) =
    let first = pages_short v (own_domain v) fs k a pages in
    let alike = ap vcpus (pages_came v (own_domain v) fs k a pages) in
    let here = got_short a b (get_or fs k 0) (own_domain v) (Err e) got in
    let back = gives_short fs k b w gives in
    let few = few_right entries fs right in
    let one = one_page_more k (each_page v) in
    let most = mul-le-mul_right {m = k + 1} {n = 14} (each_page v) (omega (arith, low, few)) in
    omega (arith, first, alike, here, back, few, low, one, most)
sets_short v _ entries fs _ (gdt.set a w right pages named) =
    let first = pages_short v (own_domain v) fs (length fs) a pages in
    let last = named_short a fs 0 w named in
    let few = few_right entries fs right in
    let most = mul-le-mul_right {m = length fs} {n = 14} (each_page v) few in
    omega (arith, first, last, most)

-- ---- the words of the LDT, and its base
unnamed_short : (v : PortValue) (k : ℕ) (w : PortValue) → UnnamedFrom v k w → length w.holdings.steps + 9 * k ≤ length v.holdings.steps + 144
unnamed_short v _ _ ldt.none = omega arith
unnamed_short v _ _ (ldt.more k u w rest names) =
    let before = unnamed_short v (k + 1) u rest in
    let here = names_short u w (22 + k) None names in
    omega (arith, before, here)

pub sets_short_ldt : (v w : PortValue) (address entries : ℕ) (answer : Result (Unit {0}) Stop) → SetsLdt v address entries w answer → IsShortLdt v w
sets_short_ldt v _ address entries _ (ldt.barred x is) = omega arith
sets_short_ldt v _ address entries _ (ldt.set u w old right named store) =
    let first = unnamed_short v 0 u named in
    let last = moved_once u w _ _ _ old store in
    omega (arith, first, last)
