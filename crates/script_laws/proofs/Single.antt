-- Operations of one element: reads and writes of the guest, descriptor tables, updates by address; and those that are not built.
use Rattle.std.proofs.Common.{◌≡◌, ℕ, Bool, List, [], Option, Some, None, Result, Ok, Err, refl, sym, ap, ◌∙◌, subst, inl, inr, arith}
use Rattle.xp_words.specs.declared.reply.LogLine.{LogLine}
use Rattle.xp_words.specs.declared.reply.Refusal.{Refusal}
use Rattle.xp_words.specs.declared.reply.Refusal.TheVariants.{BadCommand}
use Rattle.xp_words.specs.declared.reply.Stop.{Stop}
use Rattle.xp_words.specs.declared.reply.Stop.TheVariants.{Refused, Paused}
use Rattle.xp_board.specs.Readings.{domain_of}
use Rattle.xp_board.specs.Told.{Post, PortValue}
use Rattle.step_maker.specs.Holds.{Rests}
use Rattle.step_maker.specs.Moves.{Came}
use Rattle.step_maker.proofs.Coming.{came_post, came_trans}
use Rattle.course_laws.proofs.Awaiting.{AloneStays, NeitherLostNorBusy, NobodyWaitedFor}
use Rattle.script_law.specs.Scripts.{Answered, answered, once, once_by, refused, single}
use Rattle.script_law.specs.Values.{Numbers, Outcome, Solo, Why}
use Rattle.script_law.specs.Pages.{set_descriptor, set_gdt}
use Rattle.script_law.specs.Walks.{map_word, read_at, touch_ldt, write_at}
use Rattle.solo_pages.proofs.Single.{descriptor_comes}
use Rattle.solo_pages.proofs.Tables.{gdt_comes}
use Rattle.solo_pages.proofs.Touched.{touch_comes}
use Rattle.solo_accesses.specs.Accesses.{AccessComes, with_zero}
use Rattle.solo_accesses.proofs.Reading.{read_fresh, read_served}
use Rattle.solo_accesses.proofs.Writing.{write_fresh, write_served}
use Rattle.solo_ports.specs.Coming as coming
use Rattle.solo_ports.specs.Standing.{Clean, Fair, IsSettled, Owes, Stands, StaysAlike, nothing, whose}
use Rattle.solo_ports.proofs.Along.{owes_on}
use Rattle.vcpu_turn.specs.Accesses.{MakesRead, MakesWrite, done_by}
use Rattle.vcpu_turn.specs.Cpus.{reply_of}
use Rattle.vcpu_turn.specs.Descriptors.{DescriptorFits, DescriptorTask, DoesDescriptors, SetDescriptor, SetGdt, TouchLdt}
use Rattle.vcpu_turn.specs.Lists.{IsRefusedWhole}
use Rattle.vcpu_turn.specs.Mappings.{DropsBehind, MapsWord, UpdatesWord, done_behind}
use Rattle.vcpu_turn.specs.Mappings as mapping
use Rattle.vcpu_turn.specs.Settling.{SettlesFirst}
use Rattle.vcpu_turn.specs.Settling as settling
use Rattle.vcpu_turn.specs.Working.{valued}
use Rattle.vcpu_turn.specs.declared.cpu.Progress.{Progress}
use Rattle.vcpu_turn.proofs.Hindering.{descriptors_came, drops_came, reads_came, settles_came, word_came, writes_came}
use Rattle.script_laws.specs.Logged.{AreLines, IsShown}
use Rattle.script_laws.proofs.Extending.{lives_on}
use Rattle.script_laws.proofs.Items.{LawOf, first_comes, none_kept}
use Rattle.script_laws.proofs.Listed.{no_lines}
use Rattle.script_laws.proofs.Premises.{FairFrom, fair_back, fair_on}
use Rattle.script_laws.proofs.Settling.{owes_clean, stands_in}
use Rattle.script_laws.proofs.Tasks.{Begins, Comes, IsTaskAnswered, Lives, OwesT, descriptors_alone, own}
use Rattle.script_laws.proofs.Untouched.{SameDomains, descriptor_keeps, gdt_keeps, itself, maps_keep, read_keeps, touch_keeps, write_keeps}
use Rattle.script_laws.proofs.Knowing.{IsKnown, ShownLaws, known_by, stands_alone}

-- ---- done once, or not
pub done_once : (o : Outcome) (r : Option Why) → r ≡ None → once_by o r ≡ answered 1 o.value None o.lines o.left
done_once o None is = refl
done_once o (Some y) is = absurd cc

pub refused_once : (o : Outcome) (r : Option Why) (y : Why) → r ≡ Some y → once_by o r ≡ answered 0 0 (Some y) o.lines o.left
refused_once o None y is = absurd cc
refused_once o (Some x) y is = ap (λ z. answered 0 0 z o.lines o.left) is

left_once : (o : Outcome) (r : Option Why) → (once_by o r).left ≡ o.left
left_once o None = refl
left_once o (Some y) = refl

module _ (stays : AloneStays) (neither : NeitherLostNorBusy) (v0 : PortValue) (op : ℕ) where
  -- ---- an answer of one element
  abbrev Owns : PortValue → Solo → Type 0
  Owns = OwesT stays neither v0

  fine_so : (to : Progress) (made : List LogLine) (w : PortValue) (b : Answered) (o : Outcome) (value : ℕ) → made ≡ [] → to.done ≡ 1 → o.refusal ≡ None → o.lines ≡ [] → o.value ≡ value → once o ≡ b → Owns w o.left → IsTaskAnswered stays neither v0 op made w (reply_of to.done value None) b
  fine_so to made w b o value none one fine bare same is owes =
      subst (IsTaskAnswered stays neither v0 op made w (reply_of to.done value None)) (sym (done_once o o.refusal fine) ∙ is)
      (record { lines = subst (λ ls. AreLines op ls o.lines) (sym none) (no_lines op o.lines bare); replies = record { done = one; value = sym same; refusal = tt }; owes = owes })

  refused_so : (to : Progress) (made : List LogLine) (w : PortValue) (b : Answered) (o : Outcome) (r : Refusal) (y : Why) → made ≡ [] → to.done ≡ 0 → o.refusal ≡ Some y → IsShown r y → o.lines ≡ [] → once o ≡ b → Owns w o.left → IsTaskAnswered stays neither v0 op made w (reply_of to.done 0 (Some r)) b
  refused_so to made w b o r y none at0 off why bare is owes =
      subst (IsTaskAnswered stays neither v0 op made w (reply_of to.done 0 (Some r))) (sym (refused_once o o.refusal y off) ∙ is)
      (record { lines = subst (λ ls. AreLines op ls o.lines) (sym none) (no_lines op o.lines bare); replies = record { done = at0; value = refl; refusal = why }; owes = owes })

  owned : (v w : PortValue) (s t : Solo) → Owns v s → Came v w → SameDomains s t → Owes w t → Owns w t
  owned v w s t owes on same left = record { ahead = record { came = came_trans v0 v w owes.ahead.came on; good = lives_on v0 s t same owes.ahead.good }; owes = left }

  -- ---- accesses of the guest
  access_so : (Going : (at : Progress) (made : List LogLine) (w : PortValue) → Type 0) (to : Progress) (made : List LogLine) (v w : PortValue) (s : Solo) (b : Answered) (o : Outcome) (r : Result ℕ Stop) → made ≡ [] → to.done ≡ done_by r → Owns v s → Came v w → SameDomains s o.left → once o ≡ b → AccessComes w o r → Comes stays neither v0 Going op to made w b r
  access_so Going to made v w s b o (Ok value) none is owes on same once_is a = fine_so to made w b o value none is a.fine a.none a.value_is once_is (owned v w s o.left owes on same (nothing a.clean))
  access_so Going to made v w s b o (Err (Refused r)) none is owes on same once_is a = refused_so to made w b o r (Numbers r) none is a.is (refl, tt) a.none once_is (owned v w s o.left owes on same (nothing a.clean))
  access_so Going to made v w s b o (Err (Paused p)) none is owes on same once_is a = absurd a

  post_at : (v : PortValue) (s : Solo) → Owns v s → v.post ≡ v0.post
  post_at v s owes = came_post v0 v owes.ahead.came

  pub read_work : (user : Bool) (va : ℕ) (to : Progress) (made : List LogLine) (v w : PortValue) (b : Answered) (answers : List Bool) (r : Result ℕ Stop) → MakesRead user va v to.done w answers r → FairFrom v0 w → Rests v → IsSettled v → (Going : (at : Progress) (made : List LogLine) (w : PortValue) → Type 0) →
      Begins stays neither v0 made v b (λ s. once (read_at (whose v0).machine user va s)) → Comes stays neither v0 Going op to made w b r
  read_work user va to made v w b answers r makes fair rests settled Going g =
      let s = g.value in
      let clean = owes_clean v s rests settled g.owes.owes in
      let fresh = (fair_on v0 v w g.owes.ahead.came fair).fresh in
      let comes = read_served stays v w s clean user va r (read_fresh v w user va r fresh makes.course) makes.course in
      access_so Going to made v w s b (read_at (whose v0).machine user va s) r g.nothing makes.done g.owes (reads_came user va v to.done w answers r makes) (read_keeps s (whose v0).machine user va s (itself s)) g.is
      (subst (λ (p : Post). AccessComes w (read_at p.machine user va s) r) (post_at v s g.owes) comes)

  done_zero : (r : Result (Unit {0}) Stop) → done_by r ≡ done_by (with_zero r)
  done_zero (Ok done) = refl
  done_zero (Err e) = refl

  pub write_work : (user : Bool) (va val : ℕ) (to : Progress) (made : List LogLine) (v w : PortValue) (b : Answered) (answers : List Bool) (r : Result (Unit {0}) Stop) → MakesWrite user va val v to.done w answers r → FairFrom v0 w → Rests v → IsSettled v → (Going : (at : Progress) (made : List LogLine) (w : PortValue) → Type 0) →
      Begins stays neither v0 made v b (λ s. once (write_at (whose v0).machine user va val s)) → Comes stays neither v0 Going op to made w b (with_zero r)
  write_work user va val to made v w b answers r makes fair rests settled Going g =
      let s = g.value in
      let clean = owes_clean v s rests settled g.owes.owes in
      let fresh = (fair_on v0 v w g.owes.ahead.came fair).fresh in
      let comes = write_served stays v w s clean user va val r (write_fresh v w user va val r fresh makes.course) makes.course in
      access_so Going to made v w s b (write_at (whose v0).machine user va val s) (with_zero r) g.nothing (makes.done ∙ done_zero r) g.owes (writes_came user va val v to.done w answers r makes) (write_keeps s (whose v0).machine user va val s (itself s)) g.is
      (subst (λ (p : Post). AccessComes w (write_at p.machine user va val s) (with_zero r)) (post_at v s g.owes) comes)

  -- ---- one element without a value that asks no gate
  one_so : (plain : Solo → Outcome) (to : Progress) (made : List LogLine) (v w : PortValue) (s : Solo) (b : Answered) (r : Result (Unit {0}) Stop) → made ≡ [] → to.done ≡ done_by r → Owns v s → Came v w → SameDomains s (plain s).left → single (plain s) ≡ b → coming.Comes (λ v x. ⊥) w s (plain s) r × IsKnown (plain s) r →
      Comes stays neither v0 (λ to made w. Begins stays neither v0 made w b (λ t. single (plain t))) op to made w b (valued r)
  one_so plain to made v w s b (Ok done) none is owes on same once_is (c, shows) = fine_so to made w b (record (plain s) { value = 0 }) 0 none is c.fine c.none refl once_is (owned v w s (plain s).left owes on same c.owes)
  one_so plain to made v w s b (Err (Refused r)) none is owes on same once_is (c, shows) = refused_so to made w b (record (plain s) { value = 0 }) r c.why none is c.is (c.same, shows c.why c.is) c.none once_is (owned v w s (plain s).left owes on same c.owes)
  one_so plain to made v w s b (Err (Paused p)) none is owes on same once_is (inl left, shows) = record { value = s; owes = record { ahead = record { came = came_trans v0 v w owes.ahead.came on; good = owes.ahead.good }; owes = left }; nothing = none; is = once_is }
  one_so plain to made v w s b (Err (Paused p)) none is owes on same once_is (inr kept, shows) = absurd kept

  keeps_by : (t : DescriptorTask) (s : Solo) → SameDomains s (descriptors_alone stays neither v0 t s).left
  keeps_by (SetGdt entries frames) s = gdt_keeps s (whose v0).machine (whose v0).domain entries frames s (itself s)
  keeps_by (SetDescriptor address word) s = descriptor_keeps s (whose v0).machine (whose v0).domain address word s (itself s)
  keeps_by (TouchLdt page) s = touch_keeps s (whose v0).machine (whose v0).domain page s (itself s)

  module _ (nobody : NobodyWaitedFor) (shown : ShownLaws) where
    descriptors_come : (t : DescriptorTask) (v w : PortValue) (s : Solo) (r : Result (Unit {0}) Stop) → v.post ≡ v0.post → Clean v s → Fair v w → DescriptorFits t v w r → coming.Comes (λ v x. ⊥) w s (descriptors_alone stays neither v0 t s) r
    descriptors_come (SetGdt entries frames) v w s r post clean fair fits =
        subst (λ (p : Post). coming.Comes (λ v x. ⊥) w s (set_gdt p.machine (domain_of p.machine p.vcpu) entries frames s) r) post (gdt_comes stays neither nobody v w s entries frames r clean fair fits)
    descriptors_come (SetDescriptor address word) v w s r post clean fair fits =
        subst (λ (p : Post). coming.Comes (λ v x. ⊥) w s (set_descriptor p.machine (domain_of p.machine p.vcpu) address word s) r) post (descriptor_comes stays neither nobody v w s address word r clean fair fits)
    descriptors_come (TouchLdt page) v w s r post clean fair fits =
        subst (λ (p : Post). coming.Comes (λ v x. ⊥) w s (touch_ldt p.machine (domain_of p.machine p.vcpu) page s) r) post (touch_comes stays neither nobody v w s page r clean fair fits)

    pub descriptors_work : (t : DescriptorTask) (to : Progress) (made : List LogLine) (v w : PortValue) (b : Answered) (answers : List Bool) (r : Result (Unit {0}) Stop) → DoesDescriptors t v to.done w answers r → FairFrom v0 w → Rests v → IsSettled v →
        Begins stays neither v0 made v b (λ s. single (descriptors_alone stays neither v0 t s)) → Comes stays neither v0 (λ to made w. Begins stays neither v0 made w b (λ s. single (descriptors_alone stays neither v0 t s))) op to made w b (valued r)
    descriptors_work t to made v w b answers r does fair rests settled g =
        let s = g.value in
        one_so (descriptors_alone stays neither v0 t) to made v w s b r g.nothing does.done g.owes (descriptors_came t v w r does.does) (keeps_by t s) g.is (
          descriptors_come t v w s r (post_at v s g.owes) (owes_clean v s rests settled g.owes.owes) (fair_on v0 v w g.owes.ahead.came fair).fair does.does,
          known_by (descriptors_alone stays neither v0 t s) r (λ x is. shown.descriptors v w t x (stands_alone v s (owes_clean v s rests settled g.owes.owes).stands) (subst (DescriptorFits t v w) is does.does)),
        )

  -- ---- an update by address
  module _ (foreign va word flags : ℕ) (law : LawOf stays neither v0 (Lives stays neither v0) (λ v w asked r. UpdatesWord (whose v0).domain foreign va word flags v w asked r) (λ u s. ⊥) (map_word (own stays neither v0) foreign va word flags))
      (drops : (u w : PortValue) (s : Solo) (r : Result (Unit {0}) Stop) → Came v0 u → Stands u s → FairFrom v0 w → DropsBehind (whose v0).domain flags va u w r → (r ≡ Ok tt) × StaysAlike u w) where
    abbrev pub mapped : Solo → Outcome
    mapped s = map_word (own stays neither v0) foreign va word flags s

    pub record MapGoing (at : Progress) (made : List LogLine) (v : PortValue) (b : Answered) : Type 0 where
      pub value : Solo
      pub owes : OwesT stays neither v0 v value
      pub nothing : made ≡ []
      pub unset : at.done ≡ 0
      pub is : single (mapped value) ≡ b

    first_came : (v w : PortValue) (answers : List Bool) (r : Result (Unit {0}) Stop) → SettlesFirst (UpdatesWord (whose v0).domain foreign va word flags) v w answers r → Came v w
    first_came v _ _ _ (settling.SettlesFirst.unsettled w answers stop settles) = settles_came v w answers (Err stop) settles
    first_came v _ _ _ (settling.SettlesFirst.performed u w early answers r settles does) = came_trans v u w (settles_came v u early (Ok tt) settles) (word_came (whose v0).domain foreign va word flags u w answers r does)

    comes_first : (at : Progress) (made : List LogLine) (v w : PortValue) (b : Answered) (answers : List Bool) (r : Result (Unit {0}) Stop) (g : MapGoing at made v b) → FairFrom v0 w → SettlesFirst (UpdatesWord (whose v0).domain foreign va word flags) v w answers r → coming.Comes (λ u s. ⊥) w g.value (mapped g.value) r × IsKnown (mapped g.value) r
    comes_first at made v w b answers r g fair first =
        first_comes stays neither v0 (Lives stays neither v0) (λ v w asked r. UpdatesWord (whose v0).domain foreign va word flags v w asked r) (λ u s. ⊥) mapped (none_kept stays neither v0 (Lives stays neither v0)) law v w g.value answers r g.owes.ahead (inl g.owes.owes) fair first

    same_by : (s : Solo) → SameDomains s (mapped s).left
    same_by s = maps_keep s (own stays neither v0) foreign va word flags s (itself s)

    stopped_so : (at to : Progress) (made : List LogLine) (v w : PortValue) (b : Answered) (e : Stop) (g : MapGoing at made v b) → to.done ≡ 0 → Came v w → coming.Comes (λ u s. ⊥) w g.value (mapped g.value) (Err e) × IsKnown {A = Unit {0}} (mapped g.value) (Err e) → Comes stays neither v0 (λ to made w. MapGoing to made w b) op to made w b (Err e)
    stopped_so at to made v w b (Refused r) g at0 on (c, shows) = refused_so to made w b (record (mapped g.value) { value = 0 }) r c.why g.nothing at0 c.is (c.same, shows c.why c.is) c.none g.is (owned v w g.value (mapped g.value).left g.owes on (same_by g.value) c.owes)
    stopped_so at to made v w b (Paused p) g at0 on (inl left, shows) = record { value = g.value; owes = record { ahead = record { came = came_trans v0 v w g.owes.ahead.came on; good = g.owes.ahead.good }; owes = left }; nothing = g.nothing; unset = at0; is = g.is }
    stopped_so at to made v w b (Paused p) g at0 on (inr kept, shows) = absurd kept

    pub map_work : (awaited : Option ℕ) (at to : Progress) (made : List LogLine) (v w : PortValue) (b : Answered) (answers : List Bool) (r : Result (Unit {0}) Stop) (from last : ℕ) → at.done ≡ from → to.done ≡ last → MapsWord (whose v0).domain foreign va word flags awaited v from last w answers r → FairFrom v0 w → MapGoing at made v b →
        Comes stays neither v0 (λ to made w. MapGoing to made w b) op to made w b (valued r)
    map_work awaited at to made v _ b _ _ _ _ is there (mapping.MapsWord.unset w answers e first) fair g = stopped_so at to made v w b e g there (first_came v w answers (Err e) first) (comes_first at made v w b answers (Err e) g fair first)
    map_work awaited at to made v _ b _ _ _ _ is there (mapping.MapsWord.set u w answers answer first behind) fair g =
        let on = first_came v u answers (Ok tt) first in
        let c = (comes_first at made v u b answers (Ok tt) g (fair_back v0 u w (drops_came (whose v0).domain flags va u w answer behind) fair) first).0 in
        let dropped = drops u w (mapped g.value).left answer (came_trans v0 v u g.owes.ahead.came on) (stands_in stays neither u (mapped g.value).left c.owes) fair behind in
        subst (λ y. Comes stays neither v0 (λ to made w. MapGoing to made w b) op to made w b (valued y)) (sym dropped.0)
        (fine_so to made w b (record (mapped g.value) { value = 0 }) 0 g.nothing (there ∙ ap done_behind dropped.0) c.fine c.none refl g.is
        (owned v w g.value (mapped g.value).left g.owes (came_trans v u w on dropped.1.came) (same_by g.value) (owes_on stays u w (mapped g.value).left dropped.1 c.owes)))
    map_work awaited at to made v _ b _ _ _ _ is there (mapping.MapsWord.waited w answer waits) fair g = absurd (let zero_at = g.unset in omega arith)

  -- ---- one that is not built
  pub unbuilt_work : (to : Progress) (made : List LogLine) (v w : PortValue) (b : Answered) (answers : List Bool) (r : Result ℕ Stop) (Going : (at : Progress) (made : List LogLine) (w : PortValue) → Type 0) → IsRefusedWhole BadCommand v to.done w answers r → Begins stays neither v0 made v b (λ s. refused BadCommand s) →
      Comes stays neither v0 Going op to made w b r
  unbuilt_work to made v w b answers r Going whole g =
      subst (λ y. Comes stays neither v0 Going op to made w b y) (sym whole.refused)
      (subst (IsTaskAnswered stays neither v0 op made w (reply_of to.done 0 (Some BadCommand))) g.is
      (record { lines = subst (λ ls. AreLines op ls []) (sym g.nothing) tt; replies = record { done = whole.none; value = refl; refusal = (refl, tt) }; owes = subst (λ y. Owns y g.value) (sym whole.no_step) g.owes }))
