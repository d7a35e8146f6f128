-- An own word is stored, and what it named is given back: as the plain function renames it.
use Rattle.std.proofs.Common.{◌≡◌, ◌≢◌, ℕ, zero, suc, ◌+◌, ◌<◌, ◌≤◌, ◌==◌, if◌then◌else◌, Bool, true, false, List, Option, None, refl, sym, ap, ◌∙◌, subst, arith}
use Rattle.std.proofs.lemmas.Bool.Decides.{nat_tests}
use Rattle.xp_words.specs.KindWords.{kind_fields}
use Rattle.xp_words.specs.Machine.{Machine}
use Rattle.xp_words.specs.declared.kind.PageType.TheVariants.{Desc}
use Rattle.xp_words.specs.declared.place.Place.{Place}
use Rattle.xp_words.specs.declared.place.Place.TheVariants.{Cell, Kind, Life, M2p, Priv, Refs, Vcpu}
use Rattle.xp_board.specs.Told.{Post, PortValue, is_telling, told_word}
use Rattle.xp_board.specs.declared.step.Act.TheVariants.{Store}
use Rattle.xp_board.specs.declared.step.StepKind.TheVariants as steps
use Rattle.step_maker.specs.Moves.{Came, Moves}
use Rattle.step_maker.specs.Plain.{Words, change}
use Rattle.step_maker.proofs.Coming.{came_post, came_self, came_trans, moves_came}
use Rattle.step_maker.proofs.Telling.{came_telling, leaves, told_there}
use Rattle.step_maker.proofs.Visiting.{does_came}
use Rattle.context_words.specs.Names.{naming}
use Rattle.desc_pages.specs.Gdt as gdt
use Rattle.desc_pages.specs.Gdt.{NamedFrom, page_at}
use Rattle.desc_pages.specs.Ldt as ldt
use Rattle.desc_pages.specs.Ldt.{UnnamedFrom}
use Rattle.desc_pages.specs.Names.{GaveOld, NamesPage}
use Rattle.table_law.specs.Plain.{share_of, sober}
use Rattle.script_law.specs.Frames.{back_named, rename}
use Rattle.script_law.specs.Pages.{give_page}
use Rattle.script_law.specs.Repeats.{each_below}
use Rattle.script_law.specs.Shown.{IsShownWord, base, tables}
use Rattle.script_law.specs.Values.{Solo, with_frames, with_own}
use Rattle.solo_pages.specs.Shown.{IsShown}
use Rattle.solo_pages.proofs.Coming.{shown_stays}
use Rattle.solo_pages.proofs.Filling.{stored_here, stored_off}
use Rattle.solo_pages.proofs.Giving.{gave_back, given, given_whole}
use Rattle.solo_pages.proofs.Renaming.{Swaps, one_down, renames_swap}

-- ---- an own word is stored
module _ (n : Machine) (s : ℕ) (m w : Words) (y : Solo) (k word : ℕ) (is : IsShown n s m y) (shown : IsShownWord k) (left : (q : Place) → w q ≡ change (Store word) (Vcpu s k) m q) where
  off : (q : Place) → q ≢ Vcpu s k → w q ≡ m q
  off q apart = left q ∙ stored_off word (Vcpu s k) q m apart

  own_by : (b : Bool) (j : ℕ) → (j == k) ≡ b → IsShownWord j → (if b then word else y.own j) ≡ w (Vcpu s j)
  own_by true j same told = let e : j ≡ k = grind (arith, nat_tests) in sym (left (Vcpu s j) ∙ ap (λ i. change (Store word) (Vcpu s k) m (Vcpu s i)) e ∙ stored_here word (Vcpu s k) m)
  own_by false j apart told = is.others.own j told ∙ sym (off (Vcpu s j) (λ e. let i : j ≡ k = cc in let c : (j == k) ≡ true = grind (arith, nat_tests) in let x = sym apart ∙ c in cc))

  not_old : (j : ℕ) → 1 < j → j < 7 → j ≢ k
  not_old j low high = by shown
    where
      by : IsShownWord k → j ≢ k
      by (base few) e = omega (arith, e, few, low)
      by (tables above most) e = omega (arith, e, above, high)

  pub stored_own : IsShown n s w (with_own k word y)
  stored_own =
      record {
        others = record {
          maps = λ f inside. is.others.maps f inside ∙ sym (off (M2p f) (λ e. cc));
          own = λ j told. own_by (j == k) j refl told;
          privileges = λ d real. is.others.privileges d real ∙ sym (off (Priv d) (λ e. cc));
          lives = λ d real. is.others.lives d real ∙ sym (off (Life d) (λ e. cc));
        };
        frames = record {
          shares = λ g inside. is.frames.shares g inside ∙ sym (ap share_of (off (Refs g) (λ e. cc)));
          kinds = λ g inside. is.frames.kinds g inside ∙ sym (ap (λ z. sober (kind_fields z)) (off (Kind g) (λ e. cc)));
          cells = λ g i inside few. is.frames.cells g i inside few ∙ sym (off (Cell g i) (λ e. cc));
        };
        whole = is.whole;
        first = off (Vcpu s 2) (λ e. let i : 2 ≡ k = cc in not_old 2 (omega arith) (omega arith) i) ∙ is.first;
        second = off (Vcpu s 3) (λ e. let i : 3 ≡ k = cc in not_old 3 (omega arith) (omega arith) i) ∙ is.second;
      }

-- ---- and what it named is given back
old_came : (v w : PortValue) (old : ℕ) → GaveOld v w old → Came v w
old_came v w zero a = subst (λ (y : PortValue). Came v y) (sym a) (came_self v)
old_came v w (suc g) a = does_came v w _ a

pub names_came : (v w : PortValue) (k : ℕ) (new : Option ℕ) → NamesPage v w k new → Came v w
names_came v w k new a = came_trans v a.stored w (moves_came v a.stored (Vcpu v.post.vcpu k) (Store (naming new)) steps.Context None a.old a.stores) (old_came a.stored w a.old a.gives)

given_old : (n : Machine) (s : ℕ) (v w : PortValue) (y : Solo) (old : ℕ) → v.post.machine ≡ n → is_telling v ≡ true → IsShown n s (told_word v) y → GaveOld v w old → IsShown n s (told_word w) (with_frames (back_named give_page old y.frames) y)
given_old n s v w y zero same telling is a = subst (λ (z : PortValue). IsShown n s (told_word z) y) (sym a) is
given_old n s v w y (suc g) same telling is a =
    let b = gave_back n v w g Desc y.frames same telling is.frames refl a in
    shown_stays n s (told_word v) (told_word w) y (given g Desc y.frames) is b.beside b.frames (given_whole n g Desc y.frames b.inside is.whole)

module _ (n : Machine) (s : ℕ) (v w : PortValue) (y : Solo) (k : ℕ) (new : Option ℕ) (same : v.post.machine ≡ n) (mine : v.post.vcpu ≡ s) (telling : is_telling v ≡ true) (is : IsShown n s (told_word v) y) (shown : IsShownWord k) (names : NamesPage v w k new) where
  stores : Moves v names.stored (Vcpu s k) (Store (naming new)) steps.Context None names.old
  stores = subst (λ j. Moves v names.stored (Vcpu j k) (Store (naming new)) steps.Context None names.old) mine names.stores

  was : y.own k ≡ names.old
  was = is.others.own k shown ∙ told_there v names.stored (Vcpu s k) (Store (naming new)) steps.Context None names.old stores telling

  came : Came v names.stored
  came = moves_came v names.stored (Vcpu s k) (Store (naming new)) steps.Context None names.old stores

  pub named_so : IsShown n s (told_word w) (rename give_page k (naming new) y)
  named_so =
      let at = stored_own n s (told_word v) (told_word names.stored) y k (naming new) is shown (leaves v names.stored (Vcpu s k) (Store (naming new)) steps.Context None names.old stores telling) in
      let gone = given_old n s names.stored w (with_own k (naming new) y) names.old (ap (λ (p : Post). p.machine) (came_post v names.stored came) ∙ same) (came_telling v names.stored came ∙ telling) at names.gives in
      subst (λ o. IsShown n s (told_word w) (with_own k (naming new) (with_frames (back_named give_page o y.frames) y))) (sym was) gone

-- ---- all words of a table, the last of them first
pub named_came : (v : PortValue) (fs : List ℕ) (k : ℕ) (w : PortValue) → NamedFrom v fs k w → Came v w
named_came v fs _ _ gdt.none = came_self v
named_came v fs _ _ (gdt.more k u w before names) = came_trans v u w (named_came v fs (k + 1) u before) (names_came u w (8 + k) (page_at fs k) names)

pub unnamed_came : (v : PortValue) (k : ℕ) (w : PortValue) → UnnamedFrom v k w → Came v w
unnamed_came v _ _ ldt.none = came_self v
unnamed_came v _ _ (ldt.more k u w before names) = came_trans v u w (unnamed_came v (k + 1) u before) (names_came u w (22 + k) None names)

-- what is left to be done below that number leaves all of it
record Below (n : Machine) (s : ℕ) (w : PortValue) (one : ℕ → Solo → Solo) (many k : ℕ) (y : Solo) : Type 0 where
  pub left : Solo
  pub shown : IsShown n s (told_word w) left
  pub all : each_below k one left ≡ each_below many one y

below_all : (n : Machine) (s : ℕ) (w : PortValue) (one : ℕ → Solo → Solo) (many : ℕ) (y : Solo) → Below n s w one many 0 y → IsShown n s (told_word w) (each_below many one y)
unfolding each_below
below_all n s w one many y b = subst (λ z. IsShown n s (told_word w) z) b.all b.shown

module _ (n : Machine) (s : ℕ) (v : PortValue) (y : Solo) (same : v.post.machine ≡ n) (mine : v.post.vcpu ≡ s) (telling : is_telling v ≡ true) (is : IsShown n s (told_word v) y) where
  module _ (fs : List ℕ) where
    abbrev pub names_one : ℕ → Solo → Solo
    names_one = λ k. rename give_page (8 + k) (naming (page_at fs k))

    names_swap : Swaps names_one
    names_swap i j z apart = renames_swap (8 + i) (8 + j) (naming (page_at fs i)) (naming (page_at fs j)) z (λ e. apart (omega (arith, e)))

    named_most : (k : ℕ) (w : PortValue) → NamedFrom v fs k w → k ≤ 14
    named_most _ _ gdt.none = omega arith
    named_most _ _ (gdt.more k u w before names) = let c = named_most (k + 1) u before in omega (arith, c)

    named_below : (k : ℕ) (w : PortValue) → NamedFrom v fs k w → Below n s w names_one 14 k y
    named_below _ _ gdt.none = record { left = y; shown = is; all = refl }
    named_below _ _ (gdt.more k u w before names) =
        let b = named_below (k + 1) u before in
        let post = came_post v u (named_came v fs (k + 1) u before) in
        record {
          left = names_one k b.left;
          shown = named_so n s u w b.left (8 + k) (page_at fs k) (ap (λ (p : Post). p.machine) post ∙ same) (ap (λ (p : Post). p.vcpu) post ∙ mine) (came_telling v u (named_came v fs (k + 1) u before) ∙ telling) b.shown
              (tables (omega arith) (let c = named_most (k + 1) u before in omega (arith, c))) names;
          all = one_down names_one k b.left names_swap ∙ b.all;
        }

    pub gdt_named : (w : PortValue) → NamedFrom v fs 0 w → IsShown n s (told_word w) (each_below 14 names_one y)
    gdt_named w all = below_all n s w names_one 14 y (named_below 0 w all)

  abbrev pub unnames_one : ℕ → Solo → Solo
  unnames_one = λ k. rename give_page (22 + k) 0

  unnames_swap : Swaps unnames_one
  unnames_swap i j z apart = renames_swap (22 + i) (22 + j) 0 0 z (λ e. apart (omega (arith, e)))

  unnamed_most : (k : ℕ) (w : PortValue) → UnnamedFrom v k w → k ≤ 16
  unnamed_most _ _ ldt.none = omega arith
  unnamed_most _ _ (ldt.more k u w before names) = let c = unnamed_most (k + 1) u before in omega (arith, c)

  unnamed_below : (k : ℕ) (w : PortValue) → UnnamedFrom v k w → Below n s w unnames_one 16 k y
  unnamed_below _ _ ldt.none = record { left = y; shown = is; all = refl }
  unnamed_below _ _ (ldt.more k u w before names) =
      let b = unnamed_below (k + 1) u before in
      let came = unnamed_came v (k + 1) u before in
      let post = came_post v u came in
      record {
        left = unnames_one k b.left;
        shown = named_so n s u w b.left (22 + k) None (ap (λ (p : Post). p.machine) post ∙ same) (ap (λ (p : Post). p.vcpu) post ∙ mine) (came_telling v u came ∙ telling) b.shown
            (tables (omega arith) (let c = unnamed_most (k + 1) u before in omega (arith, c))) names;
        all = one_down unnames_one k b.left unnames_swap ∙ b.all;
      }

  pub ldt_unnamed : (w : PortValue) → UnnamedFrom v 0 w → IsShown n s (told_word w) (each_below 16 unnames_one y)
  ldt_unnamed w all = below_all n s w unnames_one 16 y (unnamed_below 0 w all)
