-- Each element of `mmuext_op` comes to its plain meaning: those about tables and flushes, and those about whole pages and the LDT.
use Rattle.std.proofs.Common.{◌≡◌, ◌⊎◌, ℕ, ◌+◌, ◌≤◌, ◌==◌, ◌||◌, nat_lt, Bool, true, false, List, Option, Some, None, Result, refl, sym, subst, inl, inr, if◌then◌else◌, arith}
use Rattle.std.proofs.lemmas.Bool.{cases_Bool}
use Rattle.std.proofs.lemmas.Bool.Decides.{nat_tests}
use Rattle.xp_words.specs.declared.ops.ExtOp.{ExtOp}
use Rattle.xp_words.specs.declared.reply.Stop.{Stop}
use Rattle.xp_board.specs.Readings.{domain_of}
use Rattle.xp_board.specs.Told.{Post, PortValue, told_word}
use Rattle.step_maker.proofs.Coming.{came_post}
use Rattle.course_laws.proofs.Awaiting.{AloneStays, NeitherLostNorBusy}
use Rattle.mmuext_ops.specs.Elements.{ext_element, own_element}
use Rattle.mmuext_ops.specs.declared.element.Element.{Element}
use Rattle.mmuext_ops.specs.declared.element.Element.TheVariants.{Pin, Unpin, NewBase, NewUserBase, FlushLocal, Invalidate, FlushVcpus, SetLdt, ClearPage, CopyPage, Unknown}
use Rattle.table_bases.specs.Asking.{user_frame}
use Rattle.table_words.specs.OldWords.{old_place}
use Rattle.table_words.specs.declared.old_words.OldWord.TheVariants.{First}
use Rattle.script_law.specs.Elements.{ext_alone, performed}
use Rattle.script_law.specs.Values.{Solo}
use Rattle.solo_pages.proofs.Tables.{ldt_comes}
use Rattle.solo_pages.proofs.Wholly.{clear_comes, copy_comes}
use Rattle.solo_pins.specs.Performing.{IsOnTables, KeepsPin, KeepsTop}
use Rattle.solo_pins.proofs.Meaning.{Laws, element_comes}
use Rattle.solo_ports.specs.Coming.{Comes}
use Rattle.solo_ports.specs.Standing.{Clean, Fair, IsSettled, KeepsTable, Stands, StaysAlike, whose}
use Rattle.solo_ports.proofs.Along.{keeps_on}
use Rattle.vcpu_turn.specs.Ext.{Performs}
use Rattle.script_laws.proofs.Items.{IsKeeping, LawOf}
use Rattle.script_laws.proofs.Premises.{fair_on}
use Rattle.script_laws.proofs.Tasks.{Lives, own}
use Rattle.script_laws.proofs.Knowing.{ShownLaws, known_by, stands_alone}

-- ---- levels
is_pin : Element → Bool
is_pin (Pin f level) = true
is_pin _ = false

no_pin : (b : Bool) (x y : Element) → is_pin x ≡ false → is_pin y ≡ false → is_pin (if b then x else y) ≡ false
no_pin true x y a e = a
no_pin false x y a e = e

own_no_pin : (c a b : ℕ) → is_pin (own_element c a b) ≡ false
unfolding is_pin
own_no_pin c a b =
    no_pin (c == 5) _ _ refl (no_pin (c == 6) _ _ refl (no_pin (c == 7) _ _ refl (no_pin ((c == 8) || (c == 9)) _ _ refl (no_pin ((c == 10) || (c == 11)) _ _ refl
    (no_pin (c == 13) _ _ refl (no_pin (c == 15) _ _ refl (no_pin (c == 16) _ _ refl (no_pin (c == 17) (CopyPage a b) Unknown refl refl))))))))

-- what an element is about
data Kind (x : Element) : Type 0 where
  tables : IsOnTables x → Kind x
  ldt : (address entries : ℕ) → x ≡ SetLdt address entries → Kind x
  clear : (f : ℕ) → x ≡ ClearPage f → Kind x
  copy : (to from : ℕ) → x ≡ CopyPage to from → Kind x

unpinned_kind : (x : Element) → is_pin x ≡ false → Kind x
unfolding is_pin
unpinned_kind (Pin f level) off = absurd cc
unpinned_kind (Unpin f) off = tables tt
unpinned_kind (NewBase f) off = tables tt
unpinned_kind (NewUserBase f) off = tables tt
unpinned_kind FlushLocal off = tables tt
unpinned_kind (Invalidate va) off = tables tt
unpinned_kind (FlushVcpus mask) off = tables tt
unpinned_kind (SetLdt address entries) off = ldt address entries refl
unpinned_kind (ClearPage f) off = clear f refl
unpinned_kind (CopyPage to from) off = copy to from refl
unpinned_kind Unknown off = tables tt

kind_of : (e : ExtOp) → Kind (ext_element e)
kind_of e = elim (cases_Bool (nat_lt e.command 4)) [
  | inl pin ↦ (let few : e.command + 1 ≤ 4 = grind (arith, nat_tests) in rw pin (tables (omega arith, few)))
  | inr off ↦ rw off (elim (cases_Bool (e.command == 4)) [
    | inl unpin ↦ rw unpin (tables tt)
    | inr other ↦ rw other (unpinned_kind (own_element e.command e.first e.second) (own_no_pin e.command e.first e.second))
  ])
]

-- ---- what is kept
top_keeping : AloneStays → (new : Option ℕ) (v w : PortValue) (s : Solo) → StaysAlike v w → KeepsTop new v s → KeepsTop new w s
top_keeping stays (Some f) v w s on k = subst (λ (p : Post). KeepsTable f (domain_of p.machine p.vcpu) 4 w s) (sym (came_post v w on.came)) (keeps_on stays f (whose v).domain 4 v w s on k)
top_keeping stays None v w s on k = absurd k

top_stands : (new : Option ℕ) (v : PortValue) (s : Solo) → KeepsTop new v s → Stands v s × (told_word v (old_place v.post.vcpu First) ≡ 0)
top_stands (Some f) v s k = (k.stands, k.first)
top_stands None v s k = absurd k

kept_stands : (x : Element) (v : PortValue) (s : Solo) → KeepsPin x v s → Stands v s × (told_word v (old_place v.post.vcpu First) ≡ 0)
kept_stands (Pin f level) v s k = (k.stands, k.first)
kept_stands (NewBase f) v s k = (k.stands, k.first)
kept_stands (NewUserBase f) v s k = top_stands (user_frame f) v s k
kept_stands (Unpin f) v s k = absurd k
kept_stands FlushLocal v s k = absurd k
kept_stands (Invalidate va) v s k = absurd k
kept_stands (FlushVcpus mask) v s k = absurd k
kept_stands (SetLdt address entries) v s k = absurd k
kept_stands (ClearPage f) v s k = absurd k
kept_stands (CopyPage to from) v s k = absurd k
kept_stands Unknown v s k = absurd k

kept_on : AloneStays → (x : Element) (v w : PortValue) (s : Solo) → StaysAlike v w → KeepsPin x v s → KeepsPin x w s
kept_on stays (Pin f level) v w s on k = subst (λ (p : Post). KeepsTable f (domain_of p.machine p.vcpu) level w s) (sym (came_post v w on.came)) (keeps_on stays f (whose v).domain level v w s on k)
kept_on stays (NewBase f) v w s on k = top_keeping stays (Some f) v w s on k
kept_on stays (NewUserBase f) v w s on k = top_keeping stays (user_frame f) v w s on k
kept_on stays (Unpin f) v w s on k = absurd k
kept_on stays FlushLocal v w s on k = absurd k
kept_on stays (Invalidate va) v w s on k = absurd k
kept_on stays (FlushVcpus mask) v w s on k = absurd k
kept_on stays (SetLdt address entries) v w s on k = absurd k
kept_on stays (ClearPage f) v w s on k = absurd k
kept_on stays (CopyPage to from) v w s on k = absurd k
kept_on stays Unknown v w s on k = absurd k

module _ (l : Laws) (neither : NeitherLostNorBusy) (v0 : PortValue) where
  abbrev pub KeepsExt : ExtOp → PortValue → Solo → Type 0
  KeepsExt e v s = KeepsPin (ext_element e) v s

  pub ext_keeping : (e : ExtOp) → IsKeeping l.stays neither v0 (Lives l.stays neither v0) (KeepsExt e)
  ext_keeping e =
      record {
        stands = λ v s k. (kept_stands (ext_element e) v s k).0;
        first = λ v s k. (kept_stands (ext_element e) v s k).1;
        goes_on = λ v w s on k. kept_on l.stays (ext_element e) v w s on k;
      }

  -- ---- the law, by what the element is about
  clean_of : (x : Element) (v : PortValue) (s : Solo) → (KeepsPin x v s → ⊥) → Clean v s ⊎ KeepsPin x v s → Clean v s
  clean_of x v s never (inl clean) = clean
  clean_of x v s never (inr kept) = absurd (never kept)

  abbrev Comes_at : Element → PortValue → PortValue → Solo → Result (Unit {0}) Stop → Type 0
  Comes_at x v w s r = Comes (KeepsPin x) w s (performed (whose v) x s) r

  -- what holds of that element
  from_there : (x y : Element) (awaited : Option ℕ) (v w : PortValue) (s : Solo) (answers : List Bool) (r : Result (Unit {0}) Stop) → x ≡ y → (Clean v s ⊎ KeepsPin y v s → Performs (whose v).domain y awaited v w answers r → Comes_at y v w s r) → Clean v s ⊎ KeepsPin x v s → Performs (whose v).domain x awaited v w answers r → Comes_at x v w s r
  from_there x y awaited v w s answers r is law = subst (λ z. Clean v s ⊎ KeepsPin z v s → Performs (whose v).domain z awaited v w answers r → Comes_at z v w s r) (sym is) law

  by_kind : (x : Element) → Kind x → (awaited : Option ℕ) (v w : PortValue) (s : Solo) (answers : List Bool) (r : Result (Unit {0}) Stop) → s.lives (whose v).domain ≡ 0 → Clean v s ⊎ KeepsPin x v s → IsSettled v → Fair v w → Performs (whose v).domain x awaited v w answers r → Comes_at x v w s r
  by_kind x (tables on) awaited v w s answers r lives start settled fair p =
      element_comes l v w s awaited answers r lives settled fair x on start (record { serves = p.serves; stops = p.stops; kinds = p.kinds; hand = p.hand; rests = p.rests; course = p.course })
  by_kind x (ldt address entries is) awaited v w s answers r lives start settled fair p =
      from_there x (SetLdt address entries) awaited v w s answers r is (λ begins q. ldt_comes l.stays v w s address entries r (clean_of (SetLdt address entries) v s (λ k. k) begins) q.course.1 q.rests) start p
  by_kind x (clear f is) awaited v w s answers r lives start settled fair p =
      from_there x (ClearPage f) awaited v w s answers r is (λ begins q. clear_comes l.stays neither l.nobody v w s (whose v).domain f r (clean_of (ClearPage f) v s (λ k. k) begins) fair q.course.1 q.stops q.rests) start p
  by_kind x (copy to from is) awaited v w s answers r lives start settled fair p =
      from_there x (CopyPage to from) awaited v w s answers r is
      (λ begins q. copy_comes l.stays neither l.nobody v w s (whose v).domain to from q.course.1.0 r (clean_of (CopyPage to from) v s (λ k. k) begins) fair q.course.1.1 q.stops q.rests) start p

  either_stands : (e : ExtOp) (v : PortValue) (s : Solo) → Clean v s ⊎ KeepsExt e v s → Stands v s
  either_stands e v s (inl clean) = clean.stands
  either_stands e v s (inr kept) = (ext_keeping e).stands v s kept

  pub ext_law : (shown : ShownLaws) (e : ExtOp) (awaited : Option ℕ) → LawOf l.stays neither v0 (Lives l.stays neither v0) (λ v w asked r. Performs (whose v0).domain (ext_element e) awaited v w asked r) (KeepsExt e) (ext_alone (own l.stays neither v0) e)
  ext_law shown e awaited v w s answers r ahead start settled rests fair p =
      let post = came_post v0 v ahead.came in (
        subst (λ (q : Post). Comes (KeepsPin (ext_element e)) w s (performed (record { machine = q.machine; domain = domain_of q.machine q.vcpu }) (ext_element e) s) r) post
            (by_kind (ext_element e) (kind_of e) awaited v w s answers r (subst (λ (q : Post). s.lives (domain_of q.machine q.vcpu) ≡ 0) (sym post) ahead.good) start settled (fair_on v0 v w ahead.came fair).fair
            (subst (λ (q : Post). Performs (domain_of q.machine q.vcpu) (ext_element e) awaited v w answers r) (sym post) p)),
        known_by (ext_alone (own l.stays neither v0) e s) r (λ x is. shown.elements v w (whose v0).domain (ext_element e) awaited answers x (stands_alone v s (either_stands e v s start)) (subst (Performs (whose v0).domain (ext_element e) awaited v w answers) is p)),
      )
