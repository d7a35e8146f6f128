-- The words of the GDT name their pages, the last word first.
use Rattle.std.proofs.Common.{◌≡◌, ℕ, suc, ◌+◌, ◌-◌, ◌<◌, ◌≤◌, nat_lt, if◌then◌else◌, add-one, Bool, true, false, List, [], ◌∷◌, ◌++◌, length, get_or, Some, None, refl, sym, ap, ◌∙◌, subst, arith}
use Rattle.std.proofs.lemmas.Bool.Decides.{nat_tests}
use Rattle.xp_words.specs.Machine.{IsMachine}
use Rattle.xp_words.specs.declared.kind.PageType.TheVariants.{Desc}
use Rattle.xp_board.specs.declared.holdings.OwnerFound.TheVariants as owners
use Rattle.xp_board.specs.declared.holdings.TypedReference.{TypedReference}
use Rattle.xp_board.specs.KindSteps.{live_typed}
use Rattle.xp_board.specs.Told.{PortValue}
use Rattle.xp_board.proofs.StepLists.{from_lt as lower}
use Rattle.step_maker.specs.Holds.{MayWork, still}
use Rattle.step_maker.proofs.Coming.{came_self, came_trans}
use Rattle.step_maker.specs.Answers.{Serves, SetsWord}
use Rattle.desc_pages.specs.Names.{HoldsForPage, PutsPage, own_domain}
use Rattle.context_words.specs.Names.{naming}
use Rattle.desc_pages.specs.Gdt.{HoldsPages, NamesAll, held, least, more, none, page_at, words_from}

-- ---- how many are still in hand
least_all : (k n : ℕ) → n ≤ k → least k n ≡ n
least_all k n few = grind (arith, nat_tests)

least_more : (k n : ℕ) → k < n → least (k + 1) n ≡ k + 1
least_more k n low = grind (arith, nat_tests)

least_here : (k n : ℕ) → k < n → least k n ≡ k
least_here k n low = grind (arith, nat_tests)

not_lower : (k n : ℕ) → nat_lt k n ≡ false → n ≤ k
not_lower k n is = grind (arith, nat_tests)

-- ---- before the first
pub names_none : (v : PortValue) (fs : List ℕ) → length fs ≤ 14 → HoldsPages v fs (length fs) → NamesAll v v fs 14
names_none v fs few p =
    record {
      came = came_self v;
      hand = ap (λ (ts : List TypedReference). still (record v { holdings = record v.holdings { typed = ts } })) (p.typed ∙ ap (λ j. held (own_domain v) fs j) (sym (least_all 14 (length fs) few)));
      serves = λ u r ds before contexts. before;
      course = none;
    }

module _ (v y : PortValue) (fs : List ℕ) (k : ℕ) (below : k < 14) (p : HoldsPages v fs (length fs)) (g : NamesAll v y fs (k + 1)) where
  abbrev n : ℕ
  n = length fs

  same_domain : own_domain y ≡ own_domain v
  same_domain = ap (λ (q : PortValue). own_domain q) g.hand

  typed_there : y.holdings.typed ≡ held (own_domain v) fs (least (k + 1) n)
  typed_there = ap (λ (q : PortValue). q.holdings.typed) g.hand

  works_there : y.holdings.works ≡ []
  works_there = ap (λ (q : PortValue). q.holdings.works) g.hand ∙ p.others.works

  pub named_works : MayWork v → MayWork y
  named_works may =
      record {
        running = ap (λ (q : PortValue). q.holdings.run) g.hand ∙ may.running;
        no_walk = ap (λ (q : PortValue). q.holdings.walk) g.hand ∙ may.no_walk;
        machine = subst (λ (q : PortValue). IsMachine q.post.machine) (sym g.hand) may.machine;
      }

  holds_by : (b : Bool) → nat_lt k n ≡ b → HoldsForPage y (if b then Some (get_or fs k 0) else None) (held (own_domain v) fs (least k n))
  holds_by true is =
      let low = lower k n is in
      record {
        typed =
            typed_there ∙ ap (λ j. held (own_domain v) fs j) (least_more k n low ∙ add-one k)
            ∙ ap (λ j. live_typed (get_or fs k 0) Desc (owners.Of (own_domain v)) ∷ held (own_domain v) fs j) (sym (least_here k n low))
            ∙ ap (λ o. live_typed (get_or fs k 0) Desc (owners.Of o) ∷ held (own_domain v) fs (least k n)) (sym same_domain);
        inside = subst (λ (q : PortValue). get_or fs k 0 < q.post.machine.frames) (sym g.hand) (p.inside k low);
        works = works_there;
      }
  holds_by false is =
      let high = not_lower k n is in
      record {
        typed = typed_there ∙ ap (λ j. held (own_domain v) fs j) (least_all (k + 1) n (omega (arith, high)) ∙ sym (least_all k n high));
        inside = tt;
        works = works_there;
      }

  pub holds_next : HoldsForPage y (page_at fs k) (held (own_domain v) fs (least k n))
  holds_next = holds_by (nat_lt k n) refl

  module _ (w : PortValue) (puts : PutsPage y w (8 + k) (page_at fs k) (held (own_domain v) fs (least k n))) where
    one_longer : 14 - k ≡ suc (14 - (k + 1))
    one_longer = omega (arith, below)

    same_vcpu : y.post.vcpu ≡ v.post.vcpu
    same_vcpu = ap (λ (q : PortValue). q.post.vcpu) g.hand

    pub names_more : NamesAll v w fs k
    names_more =
        record {
          came = came_trans v y w g.came puts.came;
          hand = puts.hand ∙ ap (λ (q : PortValue). record q { holdings = record q.holdings { typed = held (own_domain v) fs (least k n) } }) g.hand;
          serves = λ u r ds before contexts.
              subst (λ m. Serves u w r (words_from v.post.vcpu fs k m ++ ds)) (sym one_longer)
              (subst (λ s. Serves u w r (SetsWord s (8 + k) (naming (page_at fs k)) ∷ (words_from v.post.vcpu fs (k + 1) (14 - (k + 1)) ++ ds))) same_vcpu
              (puts.serves u r (words_from v.post.vcpu fs (k + 1) (14 - (k + 1)) ++ ds) (g.serves u r ds before contexts) contexts));
          course = more k y w g.course puts.course;
        }
