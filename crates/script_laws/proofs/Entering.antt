-- Elements of `mmu_update` and updates by address fill the frame of a script's elements: from the laws of one element each.
use Rattle.std.proofs.Common.{◌≡◌, ◌⊎◌, ℕ, ◌<◌, ◌≤◌, ◌^◌, ◌==◌, nat_le, nat_lt, Bool, true, false, List, length, Option, Some, None, Result, Ok, Err, refl, sym, ap, ◌∙◌, subst, inl, inr, arith}
use Rattle.std.proofs.lemmas.Bool.{cases_Bool}
use Rattle.std.proofs.lemmas.Bool.Decides.{nat_tests}
use Rattle.xp_words.specs.Machine.{Machine}
use Rattle.xp_words.specs.declared.ops.Pair.{Pair}
use Rattle.xp_words.specs.declared.reply.Refusal.{Refusal}
use Rattle.xp_words.specs.declared.reply.Refusal.TheVariants.{BadRange, Dying, NoDomain, NoPrivilege}
use Rattle.xp_words.specs.declared.reply.Stop.{Stop}
use Rattle.xp_words.specs.declared.reply.Stop.TheVariants.{Refused}
use Rattle.xp_board.specs.Readings.{domain_of, has_now}
use Rattle.xp_board.specs.Told.{Post, PortValue, told_word}
use Rattle.step_maker.proofs.Coming.{came_post, came_trans}
use Rattle.course_laws.specs.Courses.{ClockGoesOn}
use Rattle.course_laws.proofs.Awaiting.{NeitherLostNorBusy}
use Rattle.foreign_map.specs.Owning.{admit, allow, frames_of, or_then, refuse_owners, tables_of}
use Rattle.foreign_map.specs.declared.owners.Owners.{Owners}
use Rattle.mmu_update.specs.Elements as pairs
use Rattle.mmu_update.specs.Fits.{Updates}
use Rattle.mmu_update.specs.UpdatesAt.{UpdatesAt}
use Rattle.mmu_update.specs.declared.element.Element.{Element}
use Rattle.mmu_update.specs.declared.element.Element.TheVariants.{SetM2p, Write, Misaligned, Unknown}
use Rattle.table_words.specs.OldWords.{old_place}
use Rattle.table_words.specs.declared.old_words.OldWord.TheVariants.{First}
use Rattle.tlb_walks.specs.Addresses.{walk_refusal}
use Rattle.script_law.specs.Elements.{pair_alone, updated}
use Rattle.script_law.specs.Values.{Numbers, Outcome, Solo, allowed, of_domains}
use Rattle.script_law.specs.Walks.{map_refusal, map_word, range_of, table_at, update_entry}
use Rattle.solo_entries.specs.Kept.{KeepsWrite}
use Rattle.solo_entries.proofs.Writing.{unpaused_comes}
use Rattle.solo_ports.specs.Coming.{Comes, ComesUnpaused}
use Rattle.solo_ports.specs.Standing.{Clean, Fair, Stands, StaysAlike, nothing, whose}
use Rattle.solo_ports.proofs.Along.{clean_on}
use Rattle.solo_pins.proofs.Meaning.{Laws}
use Rattle.vcpu_turn.specs.Mappings.{UpdatesWord, is_bad_flags}
use Rattle.vcpu_turn.specs.Mappings as mapping
use Rattle.vcpu_turn.specs.Pairs.{FindsOwners}
use Rattle.script_laws.proofs.Extents.{ExtentLaw}
use Rattle.script_laws.proofs.Items.{IsKeeping, LawOf}
use Rattle.script_laws.proofs.Owning.{found_had, found_none, owners_alike}
use Rattle.script_laws.proofs.Premises.{fair_on}
use Rattle.script_laws.proofs.Tasking.{Elements}
use Rattle.script_laws.proofs.Tasks.{Lives, MayName, own, owners_of}
use Rattle.script_laws.proofs.Knowing.{IsKnown, ShownLaws, known_by, known_numbers, stands_alone}

-- ---- the laws of one element
abbrev pub PairLaw : Type 0
PairLaw = (v w : PortValue) (x : Solo) (o : Owners) (e : Element) (answers : List Bool) (answer : Result (Unit {0}) Stop) → o.tables < length v.post.machine.page_limit → x.lives o.tables ≡ 0 → Clean v x ⊎ KeepsWrite o e v x → Fair v w → Updates o e v w answers answer →
    Comes (KeepsWrite o e) w x (updated (whose v) o e x) answer

abbrev pub AtLaw : Type 0
AtLaw = (v w : PortValue) (x : Solo) (o : Owners) (va word : ℕ) (answers : List Bool) (answer : Result (Unit {0}) Stop) → Clean v x → ClockGoesOn v w → UpdatesAt o va word v w answers answer →
    ComesUnpaused w (allowed (walk_refusal va) x (update_entry v.post.machine o va word x (table_at v.post.machine va x (x.own 0)))) answer

abbrev pub KeptOn : Type 0
KeptOn = (o : Owners) (e : Element) (v w : PortValue) (x : Solo) → StaysAlike v w → KeepsWrite o e v x → KeepsWrite o e w x

-- ---- who may be named is alive
first_none : (a b : Option Refusal) → or_then a b ≡ None → a ≡ None
first_none None b none = refl
first_none (Some y) b none = absurd cc

record IsAliveDomain (n : Machine) (s : Solo) (d : ℕ) : Type 0 where
  real : d < length n.page_limit
  lives : s.lives d ≡ 0

module _ (n : Machine) (s : Solo) (caller : ℕ) (real : caller < length n.page_limit) (lives : s.lives caller ≡ 0) where
  admitted : (d : ℕ) → admit n (of_domains s) caller d ≡ None → IsAliveDomain n s d
  admitted d none = elim (cases_Bool (d == caller)) [
    | inl own ↦ (let same : d ≡ caller = grind (arith, nat_tests) in subst (IsAliveDomain n s) (sym same) (record { real = real; lives = lives }))
    | inr off ↦ elim (cases_Bool (nat_lt d (length n.page_limit))) [
      | inr beyond ↦ absurd (let e : admit n (of_domains s) caller d ≡ Some NoDomain = rw (off, beyond) refl in let f = sym none ∙ e in cc)
      | inl inside ↦ elim (cases_Bool (has_now d (s.privileges caller))) [
        | inr bare ↦ absurd (let e : admit n (of_domains s) caller d ≡ Some (NoPrivilege caller d) = rw (off, inside, bare) refl in let f = sym none ∙ e in cc)
        | inl over ↦ elim (cases_Bool (s.lives d == 0)) [
          | inr dying ↦ absurd (let e : admit n (of_domains s) caller d ≡ Some (Dying d (s.lives d)) = rw (off, inside, over, dying) refl in let f = sym none ∙ e in cc)
          | inl alive ↦ record { real = (grind (arith, nat_tests)); lives = (grind (arith, nat_tests)) }
        ]
      ]
    ]
  ]

  tables_alive : (foreign : ℕ) → refuse_owners n (of_domains s) caller foreign ≡ None → IsAliveDomain n s (tables_of caller foreign)
  tables_alive foreign none = elim (cases_Bool (nat_lt foreign (2 ^ 32))) [
    | inr many ↦ absurd (let e : refuse_owners n (of_domains s) caller foreign ≡ Some BadRange = rw many refl in let f = sym none ∙ e in cc)
    | inl few ↦
        let rest = or_then (admit n (of_domains s) caller (frames_of caller foreign)) (allow (of_domains s) caller (tables_of caller foreign) (frames_of caller foreign)) in
        let e : refuse_owners n (of_domains s) caller foreign ≡ or_then (admit n (of_domains s) caller (tables_of caller foreign)) rest = rw few refl in
        admitted (tables_of caller foreign) (first_none (admit n (of_domains s) caller (tables_of caller foreign)) rest (sym e ∙ none))
  ]

-- ---- what is kept
kept_stands : (o : Owners) (e : Element) (v : PortValue) (x : Solo) → KeepsWrite o e v x → Stands v x × (told_word v (old_place v.post.vcpu First) ≡ 0)
kept_stands o (Write f i word keep) v x k = (k.stands, k.first)
kept_stands o (SetM2p f gpfn) v x k = absurd k
kept_stands o Misaligned v x k = absurd k
kept_stands o Unknown v x k = absurd k

-- ---- the frame
module _ (l : Laws) (neither : NeitherLostNorBusy) (kept_on : KeptOn) (pair : PairLaw) (at : AtLaw) (shown : ShownLaws) (v0 : PortValue) (real : (whose v0).domain < length v0.post.machine.page_limit) where
  abbrev KeepsPair : Owners → Pair → PortValue → Solo → Type 0
  KeepsPair o p v x = KeepsWrite o (pairs.element_of p) v x

  pair_keeping : (foreign : ℕ) (p : Pair) → IsKeeping l.stays neither v0 (MayName l.stays neither v0 foreign) (KeepsPair (owners_of l.stays neither v0 foreign) p)
  pair_keeping foreign p =
      let o = owners_of l.stays neither v0 foreign in
      record {
        stands = λ v x k. (kept_stands o (pairs.element_of p) v x k).0;
        first = λ v x k. (kept_stands o (pairs.element_of p) v x k).1;
        goes_on = λ v w x on k. kept_on o (pairs.element_of p) v w x on k;
      }

  either_stands : (foreign : ℕ) (p : Pair) (v : PortValue) (s : Solo) → Clean v s ⊎ KeepsPair (owners_of l.stays neither v0 foreign) p v s → Stands v s
  either_stands foreign p v s (inl clean) = clean.stands
  either_stands foreign p v s (inr kept) = (pair_keeping foreign p).stands v s kept

  pair_law : (foreign : ℕ) (p : Pair) →
      LawOf l.stays neither v0 (MayName l.stays neither v0 foreign) (λ v w asked r. Updates (owners_of l.stays neither v0 foreign) (pairs.element_of p) v w asked r) (KeepsPair (owners_of l.stays neither v0 foreign) p) (pair_alone (own l.stays neither v0) (owners_of l.stays neither v0 foreign) p)
  pair_law foreign p v w s answers answer ahead start settled rests fair fits =
      let post = came_post v0 v ahead.came in
      let o = owners_of l.stays neither v0 foreign in
      let alive = tables_alive v0.post.machine s (whose v0).domain real ahead.good.0 foreign ahead.good.1 in (
        subst (λ (q : Post). Comes (KeepsWrite o (pairs.element_of p)) w s (updated (record { machine = q.machine; domain = domain_of q.machine q.vcpu }) o (pairs.element_of p) s) answer) post
            (pair v w s o (pairs.element_of p) answers answer (subst (λ (q : Post). o.tables < length q.machine.page_limit) (sym post) alive.real) alive.lives start (fair_on v0 v w ahead.came fair).fair fits),
        known_by (pair_alone (own l.stays neither v0) o p s) answer (λ x is. shown.words v w o (pairs.element_of p) answers x (stands_alone v s (either_stands foreign p v s start)) (subst (Updates o (pairs.element_of p) v w answers) is fits)),
      )

  -- ---- an update by address
  module _ (foreign va word flags : ℕ) where
    abbrev d : ℕ
    d = (whose v0).domain

    abbrev o : Owners
    o = owners_of l.stays neither v0 foreign

    -- whose frame, and which flags
    abbrev by_owners : Option Refusal → Solo → Option Refusal
    by_owners r s = or_then r (or_then (range_of (is_bad_flags flags)) (walk_refusal va))

    abbrev plain_at : Machine → Owners → Solo → Option Refusal → Outcome
    plain_at n a s r = allowed r s (update_entry n a va word s (table_at n va s (s.own 0)))

    refused_comes : (v w : PortValue) (s : Solo) (r : Option Refusal) (y : Refusal) → r ≡ Some y → Clean w s → Comes (λ u t. ⊥) w s (plain_at v0.post.machine o s r) (Err (Refused y)) × IsKnown {A = Unit {0}} (plain_at v0.post.machine o s r) (Err (Refused y))
    refused_comes v w s r y is clean =
        subst (λ c. Comes (λ u t. ⊥) w s (plain_at v0.post.machine o s c) (Err (Refused y)) × IsKnown {A = Unit {0}} (plain_at v0.post.machine o s c) (Err (Refused y))) (sym is)
        (record { why = Numbers y; is = refl; same = refl; none = refl; owes = nothing clean }, known_numbers y y (plain_at v0.post.machine o s (Some y)) refl)

    far_is : (s : Solo) → 65536 ≤ foreign → map_refusal (own l.stays neither v0) foreign va flags s ≡ Some BadRange
    far_is s far = let b : nat_le (2 ^ 16) foreign ≡ true = grind (arith, nat_tests) in rw b refl

    near_is : (s : Solo) → foreign < 65536 → map_refusal (own l.stays neither v0) foreign va flags s ≡ by_owners (refuse_owners v0.post.machine (of_domains s) (whose v0).domain foreign) s
    near_is s near = let b : nat_le (2 ^ 16) foreign ≡ false = grind (arith, nat_tests) in rw b refl

    named_is : (s : Solo) (b : Bool) → foreign < 65536 → refuse_owners v0.post.machine (of_domains s) (whose v0).domain foreign ≡ None → is_bad_flags flags ≡ b → map_refusal (own l.stays neither v0) foreign va flags s ≡ or_then (range_of b) (walk_refusal va)
    named_is s b near none is = near_is s near ∙ ap (λ r. by_owners r s) none ∙ ap (λ c. or_then (range_of c) (walk_refusal va)) is

    module _ (v : PortValue) (s : Solo) (post : v.post ≡ v0.post) (clean : Clean v s) where
      low : d < length v.post.machine.page_limit
      low = subst (λ (q : Post). (whose v0).domain < length q.machine.page_limit) (sym post) real

      found_alike : (u : PortValue) (r : Result Owners Refusal) → FindsOwners v u (whose v0).domain foreign r → StaysAlike v u
      found_alike u r finds = owners_alike v u s clean.stands (whose v0).domain foreign low r finds

      at_v0 : (r : Option Refusal) → refuse_owners v.post.machine (of_domains s) (whose v0).domain foreign ≡ r → refuse_owners v0.post.machine (of_domains s) (whose v0).domain foreign ≡ r
      at_v0 r is = subst (λ (q : Post). refuse_owners q.machine (of_domains s) (whose v0).domain foreign ≡ r) post is

      owned_comes : (u w : PortValue) (a : Owners) (answers : List Bool) (answer : Result (Unit {0}) Stop) → foreign < 65536 → FindsOwners v u (whose v0).domain foreign (Ok a) → is_bad_flags flags ≡ false → UpdatesAt a va word u w answers answer → ClockGoesOn u w →
          Comes (λ u t. ⊥) w s (map_word (own l.stays neither v0) foreign va word flags s) answer × IsKnown (map_word (own l.stays neither v0) foreign va word flags s) answer
      owned_comes u w a answers answer near finds fine updates goes =
          let had = found_had v u s clean.stands (whose v0).domain foreign low a finds in
          let on = found_alike u (Ok a) finds in
          let to_u = came_post v u on.came ∙ post in
          let there = clean_on l.stays v u s on clean in
          let comes = unpaused_comes (λ u t. ⊥) w s (allowed (walk_refusal va) s (update_entry u.post.machine a va word s (table_at u.post.machine va s (s.own 0)))) answer (at u w s a va word answers answer there goes updates) in (
            subst (λ r. Comes (λ u t. ⊥) w s (plain_at v0.post.machine o s r) answer) (sym (named_is s false near (at_v0 None had.0) fine))
                (subst (λ b. Comes (λ u t. ⊥) w s (plain_at v0.post.machine b s (walk_refusal va)) answer) had.1
                (subst (λ (q : Post). Comes (λ u t. ⊥) w s (plain_at q.machine a s (walk_refusal va)) answer) to_u comes)),
            known_by (map_word (own l.stays neither v0) foreign va word flags s) answer (λ x is. shown.mapped u w a va word answers x (stands_alone u s there.stands) (subst (UpdatesAt a va word u w answers) is updates)),
          )

    map_law : LawOf l.stays neither v0 (Lives l.stays neither v0) (λ v w asked r. UpdatesWord (whose v0).domain foreign va word flags v w asked r) (λ u t. ⊥) (map_word (own l.stays neither v0) foreign va word flags)
    map_law v w s answers answer ahead (inr kept) settled rests fair updates = absurd kept
    map_law v _ s _ _ ahead (inl clean) settled rests fair (mapping.UpdatesWord.far far) = refused_comes v v s _ BadRange (far_is s far) clean
    map_law v _ s _ _ ahead (inl clean) settled rests fair (mapping.UpdatesWord.unowned w x near finds) =
        let post = came_post v0 v ahead.came in
        let none = at_v0 v s post clean (Some x) (found_none v w s clean.stands (whose v0).domain foreign (low v s post clean) x finds) in
        refused_comes v w s _ x (near_is s near ∙ ap (λ r. by_owners r s) none) (clean_on l.stays v w s (found_alike v s post clean w (Err x) finds) clean)
    map_law v _ s _ _ ahead (inl clean) settled rests fair (mapping.UpdatesWord.flagged w a near finds bad) =
        let post = came_post v0 v ahead.came in
        let had = found_had v w s clean.stands (whose v0).domain foreign (low v s post clean) a finds in
        refused_comes v w s _ BadRange (named_is s true near (at_v0 v s post clean None had.0) bad) (clean_on l.stays v w s (found_alike v s post clean w (Ok a) finds) clean)
    map_law v _ s _ _ ahead (inl clean) settled rests fair (mapping.UpdatesWord.owned u w a answers answer near finds fine updates) =
        let post = came_post v0 v ahead.came in
        let on = found_alike v s post clean u (Ok a) finds in
        owned_comes v s post clean u w a answers answer near finds fine updates (fair_on v0 u w (came_trans v0 v u ahead.came on.came) fair).fair.clock

  pub elements : ExtentLaw → Elements l neither v0
  elements extent =
      record {
        KeepsPair = KeepsPair;
        pair_keeping = pair_keeping;
        pair_law = pair_law;
        map_law = map_law;
        extent_law = extent;
        shown = shown;
      }
