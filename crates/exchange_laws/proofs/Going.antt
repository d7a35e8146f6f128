-- The pieces of an exchange are steps of one port.
use Rattle.std.proofs.Common.{ℕ, Bool, true, false, List, Result}
use Rattle.xp_words.specs.declared.entry.Demand.{Demand}
use Rattle.xp_words.specs.declared.reply.Stop.{Stop}
use Rattle.xp_board.specs.Told.{PortValue}
use Rattle.step_maker.specs.Moves.{Came}
use Rattle.step_maker.proofs.Coming.{came_self, came_trans}
use Rattle.step_maker.proofs.Visiting.{does_came}
use Rattle.course_laws.proofs.Stopping.{acquired_came}
use Rattle.course_laws.proofs.Walking.{left_came}
use Rattle.writable_pages.specs.Pages as pages
use Rattle.writable_pages.specs.Pages.{GotPage, PageLeft, TookPage}
use Rattle.entry_exchange.specs.Course as course
use Rattle.entry_exchange.specs.Course.{TookDemand}
use Rattle.table_entries.proofs.Shared.{ref_came, gave_came}

-- ---- ordinary memory
pub page_left_came : (v w : PortValue) (f owner stamp : ℕ) (own refused : Bool) → PageLeft v w f owner stamp own refused → Came v w
page_left_came v w f owner stamp true true a = does_came v w _ a
page_left_came v w f owner stamp true false a = left_came v w f 0 owner stamp true true a
page_left_came v w f owner stamp false refused a = does_came v w _ a

pub took_page_came : (v : PortValue) (f owner : ℕ) (w : PortValue) (r : Result (Unit {0}) Stop) → TookPage v f owner w r → Came v w
took_page_came v f owner _ _ (pages.counted w type) = does_came v w _ type.found
took_page_came v f owner _ _ (pages.untyped u w stop type back) = came_trans v u w (does_came v u _ type.found) (gave_came u w f back)
took_page_came v f owner _ _ (pages.waiting u w own stamp stop type left) = came_trans v u w (does_came v u _ type.found) (page_left_came u w f owner stamp own _ left.steps)

pub page_came : (v : PortValue) (f owner : ℕ) (w : PortValue) (r : Result ℕ Stop) → GotPage v f owner w r → Came v w
page_came v f owner _ _ (pages.unreferred w stop ref) = ref_came v w f owner _ ref
page_came v f owner _ _ (pages.refused u w stop ref took) = came_trans v u w (ref_came v u f owner _ ref) (took_page_came u f owner w _ took)
page_came v f owner _ _ (pages.had u w ref took) = came_trans v u w (ref_came v u f owner _ ref) (took_page_came u f owner w _ took)

-- ---- what a word asks
pub demand_came : (owner level : ℕ) (v : PortValue) (d : Demand) (w : PortValue) (answers : List Bool) (r : Result (Unit {0}) Stop) → TookDemand owner level v d w answers r → Came v w
demand_came owner level v _ _ _ _ course.nothing = came_self v
demand_came owner level v _ _ _ _ (course.referred w g ref) = ref_came v w g owner _ ref
demand_came owner level v _ _ _ _ (course.unreferred w g stop ref) = ref_came v w g owner _ ref
demand_came owner level v _ _ _ _ (course.paged w g one page) = page_came v g owner w _ page
demand_came owner level v _ _ _ _ (course.unpaged w g stop one page) = page_came v g owner w _ page
demand_came owner level v _ _ _ _ (course.acquired w g answers two had) = acquired_came v g owner _ w answers _ had
demand_came owner level v _ _ _ _ (course.refused w g answers stop two had) = acquired_came v g owner _ w answers _ had
