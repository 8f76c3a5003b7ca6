-- How the logic stores a script. Nothing here says anything about scripts.
use Rattle.std.specs.Prelude.{List, refl}
use Rattle.std.specs.Coded.{Coded, code_by, coded×, coded_list}
use Rattle.debug_scripts.specs.declared.orders.Command.{Command}
use Rattle.debug_scripts.specs.declared.orders.StopOrder.{StopOrder}
use Rattle.debug_scripts.specs.declared.orders.WatchOrder.{WatchOrder}
use Rattle.debug_scripts.specs.contracts.orders.Command as command
use Rattle.debug_scripts.specs.contracts.orders.StopOrder as stop
use Rattle.debug_scripts.specs.contracts.orders.WatchOrder as watch
use Rattle.debug_scripts.specs.Scripts.{Script}

abbrev pub coded_script : Coded Script
coded_script =
    code_by (List StopOrder × (List WatchOrder × List Command)) (coded× (coded_list stop.the_row.coded) (coded× (coded_list watch.the_row.coded) (coded_list command.the_row.coded)))
    (λ s. (s.stops, (s.watches, s.commands))) (λ c. record { stops = c.0; watches = c.1.0; commands = c.1.1 }) (λ _. refl)
