-- The GDT and the LDT are set as their plain meanings set them.
use Rattle.std.proofs.Common.{◌≡◌, ℕ, zero, suc, ◌+◌, ◌<◌, ◌≤◌, drop, get_or, length, true, List, [], Option, Some, None, Result, Ok, Err, refl, sym, ap, ◌∙◌, subst, arith}
use lib.Seq.{drop-cons, drop-length}
use Rattle.xp_words.specs.ContextWords.{ldt_write}
use Rattle.xp_words.specs.Machine.{IsMachine, Machine}
use Rattle.xp_words.specs.declared.kind.PageType.TheVariants.{Desc}
use Rattle.xp_words.specs.declared.place.Place.TheVariants.{Vcpu}
use Rattle.xp_words.specs.declared.reply.Refusal.{Refusal}
use Rattle.xp_words.specs.declared.reply.Stop.{Stop}
use Rattle.xp_words.specs.declared.reply.Stop.TheVariants.{Refused, Paused}
use Rattle.xp_board.specs.Told.{Post, PortValue, is_telling, told_word}
use Rattle.xp_board.specs.declared.step.Act.TheVariants.{Store}
use Rattle.xp_board.specs.declared.step.StepKind.TheVariants as steps
use Rattle.step_maker.specs.Holds.{Rests}
use Rattle.step_maker.specs.Moves.{Came}
use Rattle.step_maker.proofs.Coming.{came_post, came_self, came_trans, moves_came}
use Rattle.step_maker.proofs.Telling.{came_telling, leaves}
use Rattle.step_maker.proofs.Visiting.{does_came}
use Rattle.answer_laws.specs.Alone.{IsAlone}
use Rattle.answer_laws.proofs.Shared.{alone_telling}
use Rattle.context_words.specs.Names.{naming}
use Rattle.course_laws.specs.Courses.{IsFinal, IsOrderly}
use Rattle.course_laws.proofs.Awaiting.{AloneStays, NeitherLostNorBusy, NobodyWaitedFor, alone_orderly}
use Rattle.desc_pages.proofs.Short.{got_came}
use Rattle.desc_pages.specs.Gdt as gdt
use Rattle.desc_pages.specs.Gdt.{GdtSet, GivesPages, SetsGdt, TookPages, gdt_refusal, of_gdt, page_at}
use Rattle.desc_pages.specs.Ldt as ldt
use Rattle.desc_pages.specs.Ldt.{SetsLdt, ldt_base, ldt_refusal, of_ldt}
use Rattle.desc_pages.specs.Names.{own_domain}
use Rattle.desc_pages.specs.Pages.{GotDesc}
use Rattle.frame_types.specs.Found.{DropsPlain}
use Rattle.script_law.specs.Frames.{rename}
use Rattle.script_law.specs.Pages.{get_page, get_pages, give_page, set_gdt, set_ldt}
use Rattle.script_law.specs.Repeats.{each_below}
use Rattle.script_law.specs.Shown.{tables}
use Rattle.script_law.specs.Values.{Solo, Numbers, Outcome, Why, allowed, did, next_behind, or_back, back_behind, stopped, then_do, with_frames, with_own}
use Rattle.solo_ports.specs.Coming.{Comes, IsWhy}
use Rattle.solo_ports.specs.Standing.{Clean, Fair}
use Rattle.solo_pages.specs.Shown.{IsShown}
use Rattle.solo_pages.specs.Ends.{EndsSo, IsEnded}
use Rattle.solo_pages.proofs.Coming.{comes, did_so, ended, shown_clean, shown_stays, stopped_so}
use Rattle.solo_pages.proofs.Describing.{got_desc_so}
use Rattle.solo_pages.proofs.Giving.{gave_back, given, given_whole}
use Rattle.solo_pages.proofs.Naming.{gdt_named, ldt_unnamed, named_came, stored_own, unnamed_came}

-- ---- refused by its numbers
pub barred_so : (n : Machine) (s : ℕ) (v : PortValue) (x : Solo) (by : Option Refusal) (o : Outcome) (y : Refusal) → IsShown n s (told_word v) x → by ≡ Some y → EndsSo {A = Unit {0}} n s (told_word v) (allowed by x o) (Err (Refused y))
barred_so n s v x by o y is e = stopped_so n s (told_word v) (allowed by x o) x y (Numbers y) (ap (λ b. allowed b x o) e) refl is

pub allowed_fine : (by : Option Refusal) (x : Solo) (o : Outcome) → by ≡ None → allowed by x o ≡ o
allowed_fine by x o e = ap (λ b. allowed b x o) e

-- ---- the LDT
pub sets_ldt_came : (v : PortValue) (address entries : ℕ) (w : PortValue) (r : Result (Unit {0}) Stop) → SetsLdt v address entries w r → Came v w
sets_ldt_came v address entries _ _ (ldt.barred x by) = came_self v
sets_ldt_came v address entries _ _ (ldt.set u w old free unnamed stores) = came_trans v u w (unnamed_came v 0 u unnamed) (moves_came u w (Vcpu v.post.vcpu 7) (Store (ldt_write (ldt_base address entries))) steps.Context None old stores)

pub sets_ldt_so : (v : PortValue) (x : Solo) → is_telling v ≡ true → IsShown v.post.machine v.post.vcpu (told_word v) x → (address entries : ℕ) (w : PortValue) (r : Result (Unit {0}) Stop) → SetsLdt v address entries w r →
    EndsSo v.post.machine v.post.vcpu (told_word w) (set_ldt address entries x) r
sets_ldt_so v x telling is address entries _ _ (ldt.barred y by) = barred_so v.post.machine v.post.vcpu v x (ldt_refusal address entries) _ y is by
sets_ldt_so v x telling is address entries _ _ (ldt.set u w old free unnamed stores) =
    let n = v.post.machine in
    let s = v.post.vcpu in
    let word = ldt_write (ldt_base address entries) in
    let y = each_below 16 (λ k. rename give_page (22 + k) 0) x in
    let at_u = ldt_unnamed n s v x refl refl telling is u unnamed in
    let on_u = came_telling v u (unnamed_came v 0 u unnamed) ∙ telling in
    did_so n s (told_word w) (set_ldt address entries x) (with_own 7 word y) (allowed_fine (ldt_refusal address entries) x (did (with_own 7 word y)) free)
    (stored_own n s (told_word u) (told_word w) y 7 word at_u (tables (omega arith) (omega arith)) (leaves u w (Vcpu s 7) (Store word) steps.Context None old stores on_u))

-- ---- pages that are taken one behind another
-- what was taken is given back, the newest first
pub backs : List ℕ → ℕ → Outcome → Outcome
backs fs zero o = o
backs fs (suc k) o = backs fs k (or_back o (give_page (get_or fs k 0)))

backs_more : (fs : List ℕ) (k : ℕ) (o : Outcome) → backs fs (k + 1) o ≡ backs fs k (or_back o (give_page (get_or fs k 0)))
unfolding backs
backs_more fs k o = let e : k + 1 ≡ suc k = omega arith in ap (λ j. backs fs j o) e

backs_did : (fs : List ℕ) (k : ℕ) (y : Solo) → backs fs k (did y) ≡ did y
unfolding backs
backs_did fs zero y = refl
backs_did fs (suc k) y = backs_did fs k y

took_pages_came : (v : PortValue) (d : ℕ) (fs : List ℕ) (k : ℕ) (w : PortValue) → TookPages v d fs k w → Came v w
took_pages_came v d fs _ _ gdt.none = came_self v
took_pages_came v d fs _ _ (gdt.more k u w before got) = came_trans v u w (took_pages_came v d fs k u before) (got_came u w (get_or fs k 0) d _ got)

gives_pages_came : (fs : List ℕ) (k : ℕ) (v w : PortValue) → GivesPages fs k v w → Came v w
gives_pages_came fs _ _ _ (gdt.none v) = came_self v
gives_pages_came fs _ _ _ (gdt.more k v u w drops gives) = came_trans v u w (does_came v u _ drops) (gives_pages_came fs k u w gives)

-- refused so at that port
pub record IsStopped (n : Machine) (s : ℕ) (w : PortValue) (o : Outcome) (y : Refusal) : Type 0 where
  pub why : Why
  pub is : o.refusal ≡ Some why
  pub none : o.lines ≡ []
  pub same : IsWhy y why
  pub shown : IsShown n s (told_word w) o.left

module _ (stays : AloneStays) (n : Machine) (s : ℕ) (v : PortValue) (x : Solo) (alone : IsAlone v) (machine : IsMachine n) (same : v.post.machine ≡ n) (is : IsShown n s (told_word v) x) (d : ℕ) (fs : List ℕ) where
  telling : is_telling v ≡ true
  telling = alone_telling v alone

  pub record Took (k : ℕ) (u : PortValue) : Type 0 where
    pub left : Solo
    pub shown : IsShown n s (told_word u) left
    pub all : get_pages n d fs x ≡ backs fs k (get_pages n d (drop k fs) left)

  -- where the next one is taken
  module _ (k : ℕ) (u : PortValue) (came : Came v u) (t : Took k u) (more : k < length fs) where
    page : ℕ
    page = get_or fs k 0

    orderly : IsOrderly n (told_word u)
    orderly = subst (λ (p : Machine). IsOrderly p (told_word u)) (ap (λ (p : Post). p.machine) (came_post v u came) ∙ same) (alone_orderly u (stays v u alone came))

    pub got_next : (w : PortValue) (answer : Result ℕ Stop) → IsEnded answer → GotDesc u (get_or fs k 0) d w answer → EndsSo n s (told_word w) (get_page n d (get_or fs k 0) t.left) answer
    got_next w answer ended got =
        got_desc_so n s u (get_or fs k 0) d t.left machine (ap (λ (p : Post). p.machine) (came_post v u came) ∙ same) (came_telling v u came ∙ telling) orderly t.shown w answer ended got

    pub next_is : get_pages n d fs x ≡ backs fs k (then_do (get_page n d (get_or fs k 0) t.left) (λ z. or_back (get_pages n d (drop (suc k) fs) z) (give_page (get_or fs k 0))))
    unfolding get_pages
    next_is = t.all ∙ ap (λ ps. backs fs k (get_pages n d ps t.left)) (drop-cons fs k 0 more)

  took_more : (k : ℕ) (u w : PortValue) → Came v u → Took k u → k < length fs → GotDesc u (get_or fs k 0) d w (Ok (get_or fs k 0)) → Took (k + 1) w
  took_more k u w came t more got =
      let o = get_page n d (get_or fs k 0) t.left in
      let e = got_next k u came t more w (Ok (get_or fs k 0)) tt got in
      let next = ap (λ r. next_behind o r (λ z. or_back (get_pages n d (drop (suc k) fs) z) (give_page (get_or fs k 0)))) e.0 in
      let one : suc k ≡ k + 1 = omega arith in
      record {
        left = o.left;
        shown = e.2;
        all = next_is k u came t more ∙ ap (backs fs k) next ∙ sym (backs_more fs k (get_pages n d (drop (suc k) fs) o.left)) ∙ ap (λ j. backs fs (k + 1) (get_pages n d (drop j fs) o.left)) one;
      }

  took_none : Took 0 v
  unfolding backs
  took_none = record { left = x; shown = is; all = refl }

  pub took_all : (k : ℕ) (u : PortValue) → k ≤ length fs → TookPages v d fs k u → Took k u
  took_all _ _ low gdt.none = took_none
  took_all _ _ low (gdt.more k u w before got) = took_more k u w (took_pages_came v d fs k u before) (took_all k u (omega (arith, low)) before) (omega (arith, low)) got

  -- ---- what is refused gives them back
  one_given : (f : ℕ) (u w : PortValue) (o : Outcome) (y : Refusal) → u.post.machine ≡ n → is_telling u ≡ true → IsStopped n s u o y → DropsPlain u w f Desc → IsStopped n s w (or_back o (give_page f)) y
  one_given f u w o y on tells a drops =
      let g = gave_back n u w f Desc o.left.frames on tells a.shown.frames refl drops in
      let at : or_back o (give_page f) ≡ stopped a.why (with_frames (give_page f o.left.frames) o.left) = ap (λ r. back_behind o r (give_page f)) a.is in
      record {
        why = a.why;
        is = ap (λ (c : Outcome). c.refusal) at;
        none = ap (λ (c : Outcome). c.lines) at;
        same = a.same;
        shown = subst (λ (c : Outcome). IsShown n s (told_word w) c.left) (sym at)
            (shown_stays n s (told_word u) (told_word w) o.left (given f Desc o.left.frames) a.shown g.beside g.frames (given_whole n f Desc o.left.frames g.inside a.shown.whole));
      }

  all_given : (k : ℕ) (u w : PortValue) (o : Outcome) (y : Refusal) → u.post.machine ≡ n → is_telling u ≡ true → IsStopped n s u o y → GivesPages fs k u w → IsStopped n s w (backs fs k o) y
  unfolding backs
  all_given _ _ _ o y on tells a (gdt.none u) = a
  all_given _ _ _ o y on tells a (gdt.more k u z w drops gives) =
      let came = does_came u z _ drops in
      let f = get_or fs k 0 in
      subst (λ (c : Outcome). IsStopped n s w c y) (sym (backs_more fs k o))
      (all_given k z w (or_back o (give_page f)) y (ap (λ (p : Post). p.machine) (came_post u z came) ∙ on) (came_telling u z came ∙ tells) (one_given f u z o y on tells a drops) gives)

  pub untaken_so : (k : ℕ) (a b w : PortValue) (e : Stop) → k < length fs → IsFinal e → TookPages v d fs k a → GotDesc a (get_or fs k 0) d b (Err e) → GivesPages fs k b w → EndsSo {A = Unit {0}} n s (told_word w) (get_pages n d fs x) (Err e)
  untaken_so k a b w (Paused y) more final took got gives = absurd final
  untaken_so k a b w (Refused y) more final took got gives =
      let t = took_all k a (omega (arith, more)) took in
      let came = took_pages_came v d fs k a took in
      let o = get_page n d (get_or fs k 0) t.left in
      let e = got_next k a came t more b (Err (Refused y)) final got in
      let next = ap (λ r. next_behind o r (λ z. or_back (get_pages n d (drop (suc k) fs) z) (give_page (get_or fs k 0)))) e.1 in
      let at = next_is k a came t more ∙ ap (backs fs k) next in
      let to_b = came_trans v a b came (got_came a b (get_or fs k 0) d _ got) in
      let st : IsStopped n s b o y = record { why = e.0; is = e.1; none = e.2; same = e.3; shown = e.4 } in
      let r = all_given k b w o y (ap (λ (p : Post). p.machine) (came_post v b to_b) ∙ same) (came_telling v b to_b ∙ telling) st gives in
      subst (λ c. EndsSo {A = Unit {0}} n s (told_word w) c (Err (Refused y))) (sym at) (r.why, r.is, r.none, r.same, r.shown)

  -- ---- all of them
  pub record HadAll (a : PortValue) : Type 0 where
    pub left : Solo
    pub shown : IsShown n s (told_word a) left
    pub all : get_pages n d fs x ≡ did left

  pub had_all : (a : PortValue) → TookPages v d fs (length fs) a → HadAll a
  unfolding get_pages
  had_all a took =
      let t = took_all (length fs) a (omega arith) took in
      record { left = t.left; shown = t.shown; all = t.all ∙ ap (λ ps. backs fs (length fs) (get_pages n d ps t.left)) (drop-length fs) ∙ backs_did fs (length fs) t.left }

-- ---- the GDT
pub sets_gdt_came : (v : PortValue) (entries : ℕ) (fs : List ℕ) (w : PortValue) (r : Result (Unit {0}) Stop) → SetsGdt v entries fs w r → Came v w
sets_gdt_came v entries fs _ _ (gdt.barred x by) = came_self v
sets_gdt_came v entries fs _ _ (gdt.untaken k a b w stop free took more got gives) =
    came_trans v a w (took_pages_came v (own_domain v) fs k a took) (came_trans a b w (got_came a b (get_or fs k 0) (own_domain v) _ got) (gives_pages_came fs k b w gives))
sets_gdt_came v entries fs _ _ (gdt.set a w free took named) = came_trans v a w (took_pages_came v (own_domain v) fs (length fs) a took) (named_came a fs 0 w named)

module _ (stays : AloneStays) (v : PortValue) (x : Solo) (alone : IsAlone v) (machine : IsMachine v.post.machine) (is : IsShown v.post.machine v.post.vcpu (told_word v) x) (entries : ℕ) (fs : List ℕ) where
  abbrev n : Machine
  n = v.post.machine

  abbrev s : ℕ
  s = v.post.vcpu

  abbrev d : ℕ
  d = own_domain v

  abbrev named : Solo → Outcome
  named = λ z. did (each_below 14 (λ k. rename give_page (8 + k) (naming (page_at fs k))) z)

  untaken_gdt : (w : PortValue) (e : Stop) → gdt_refusal entries fs ≡ None → EndsSo {A = Unit {0}} n s (told_word w) (get_pages n d fs x) (Err e) → EndsSo {A = Unit {0}} n s (told_word w) (set_gdt n d entries fs x) (Err e)
  untaken_gdt w (Paused y) free e = absurd e
  untaken_gdt w (Refused y) free e =
      let o = get_pages n d fs x in
      let at : set_gdt n d entries fs x ≡ o = allowed_fine (gdt_refusal entries fs) x (then_do o named) free ∙ ap (λ r. next_behind o r named) e.1 in
      subst (λ c. EndsSo {A = Unit {0}} n s (told_word w) c (Err (Refused y))) (sym at) e

  pub sets_gdt_so : (w : PortValue) (r : Result (Unit {0}) Stop) → IsEnded r → SetsGdt v entries fs w r → EndsSo n s (told_word w) (set_gdt n d entries fs x) r
  sets_gdt_so _ _ ended (gdt.barred y by) = barred_so n s v x (gdt_refusal entries fs) _ y is by
  sets_gdt_so _ _ ended (gdt.untaken k a b w stop free took more got gives) = untaken_gdt w stop free (untaken_so stays n s v x alone machine refl is d fs k a b w stop more ended took got gives)
  sets_gdt_so _ _ ended (gdt.set a w free took renamed) =
      let h = had_all stays n s v x alone machine refl is d fs a took in
      let came = took_pages_came v d fs (length fs) a took in
      let post = came_post v a came in
      let at = allowed_fine (gdt_refusal entries fs) x (then_do (get_pages n d fs x) named) free ∙ ap (λ o. then_do o named) h.all in
      did_so n s (told_word w) (set_gdt n d entries fs x) (each_below 14 (λ k. rename give_page (8 + k) (naming (page_at fs k))) h.left) at
      (gdt_named n s a h.left (ap (λ (p : Post). p.machine) post) (ap (λ (p : Post). p.vcpu) post) (came_telling v a came ∙ alone_telling v alone) h.shown fs w renamed)

-- ---- the laws
pub ldt_comes : AloneStays → (v w : PortValue) (x : Solo) (address entries : ℕ) (answer : Result (Unit {0}) Stop) → Clean v x → SetsLdt v address entries w answer → Rests w → Comes (λ v x. ⊥) w x (set_ldt address entries x) answer
ldt_comes stays v w x address entries answer clean course rests =
    comes stays v w x (set_ldt address entries x) answer clean (sets_ldt_came v address entries w answer course) rests.empty
    (sets_ldt_so v x (alone_telling v clean.stands.alone) (shown_clean v x clean) address entries w answer course)

pub gdt_comes : AloneStays → NeitherLostNorBusy → NobodyWaitedFor → (v w : PortValue) (x : Solo) (entries : ℕ) (fs : List ℕ) (answer : Result (Unit {0}) Stop) → Clean v x → Fair v w → GdtSet v w entries fs answer →
    Comes (λ v x. ⊥) w x (set_gdt v.post.machine (own_domain v) entries fs x) answer
gdt_comes stays neither nobody v w x entries fs answer clean fair set =
    comes stays v w x (set_gdt v.post.machine (own_domain v) entries fs x) answer clean set.came set.rests.empty
    (sets_gdt_so stays v x clean.stands.alone clean.stands.machine (shown_clean v x clean) entries fs w answer
    (ended stays neither nobody v w x (of_gdt (own_domain v) entries fs) answer clean fair refl refl set.stops) set.course)
