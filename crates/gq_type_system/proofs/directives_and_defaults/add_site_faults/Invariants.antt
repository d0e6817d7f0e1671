use Rattle.std.proofs.Common.{◌≡◌, ◌++◌, drop}
use Rattle.gq_types.specs.Look.{types_view}
use Rattle.gq_type_system.specs.Helping.DirectivesAndDefaultsPlaces.{sites_view, site_faults}
use Rattle.gq_type_system.proofs.directives_and_defaults.add_site_faults.Given as goal

abbrev pub invariant-loop-site : goal.invariant-loop-site
invariant-loop-site l = l.faults.items ++ site_faults (types_view l.types) l.file (sites_view (drop l.site-index l.sites)) ≡ l.initial.faults.items ++ site_faults (types_view l.types) l.file (sites_view l.sites)
