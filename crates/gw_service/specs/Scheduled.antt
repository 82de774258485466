-- What is reported by a schedule.
use Rattle.gw_service.specs.Stats.{Reporting, reporting}
use Rattle.gw_service.specs.declared.stats.Schedule.{Schedule}

abbrev pub reporting_by : Schedule → Reporting
reporting_by s = reporting s.seconds s.rules s.start s.keeps s.reloads s.verbose
