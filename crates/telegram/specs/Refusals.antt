-- The refusals of a telegram, and their numbers.
use Rattle.std.specs.Prelude.{ℕ}
use Rattle.order.specs.declared.refusal.ListRefusal.{ListRefusal}
use Rattle.order.specs.declared.refusal.ListRefusal.TheVariants.{TooMany, Repeated}
use Rattle.telegram.specs.declared.refusal.Refusal.{Refusal}
use Rattle.telegram.specs.declared.refusal.Refusal.TheVariants.{EndsEarly, LeftOver, TooManyOrders, BadMap, BadClass, BadListCount, RepeatedCell}

abbrev pub number_of : Refusal → ℕ
number_of EndsEarly = 1
number_of LeftOver = 2
number_of TooManyOrders = 3
number_of BadMap = 4
number_of BadClass = 5
number_of BadListCount = 6
number_of RepeatedCell = 7

-- a list's refusal, as one of the telegram's
abbrev pub from_list : ListRefusal → Refusal
from_list TooMany = BadListCount
from_list Repeated = RepeatedCell
