use Rattle.gq_tree.specs.Views.{field_definition_view}
use Rattle.std.proofs.Common.{map}
use Rattle.gq_types.specs.Helping.Tables.{lists_in}
use Rattle.gq_types.proofs.PartsLemmas.{object_adds, interface_adds, union_adds, enum_adds, input_adds}
use Rattle.gq_types.proofs.parts.Parts.add_body.Goals as goal

pub returns-in_ok-add_names-in-Object : goal.returns-in_ok-add_names-in-Object
returns-in_ok-add_names-in-Object c =
    rw c.in-Object.is
    (object_adds (lists_in c.args.self.now) c.args.number c.in-Object.parts.interfaces.items c.add_names.new.list (cc (c.in_ok-add_names-in-Object.ensures, c.deref.ensures.value))
    (map field_definition_view c.in-Object.parts.fields.items))

pub returns-in_ok-add_names-in-Interface : goal.returns-in_ok-add_names-in-Interface
returns-in_ok-add_names-in-Interface c =
    rw c.in-Interface.is
    (interface_adds (lists_in c.args.self.now) c.args.number c.in-Interface.parts.interfaces.items c.add_names-in-Interface.new.list
    (cc (c.in_ok-add_names-in-Interface.ensures, c.deref-in-Interface.ensures.value)) (map field_definition_view c.in-Interface.parts.fields.items))

pub returns-in_ok-add_names-in-Union : goal.returns-in_ok-add_names-in-Union
returns-in_ok-add_names-in-Union c =
    rw c.in-Union.is
    (union_adds (lists_in c.args.self.now) c.args.number c.in-Union.members.items c.add_names-in-Union.new.list (cc (c.in_ok-add_names-in-Union.ensures, c.deref-in-Union.ensures.value)))

pub returns-in_ok-add_values-in-Enum : goal.returns-in_ok-add_values-in-Enum
returns-in_ok-add_values-in-Enum c =
    rw c.in-Enum.is
    (enum_adds (lists_in c.args.self.now) c.args.number c.in-Enum.values.items c.add_values.new.list (cc (c.in_ok-add_values-in-Enum.ensures, c.deref-in-Enum.ensures.value)))

pub returns-in_ok-add_inputs-in-InputObject : goal.returns-in_ok-add_inputs-in-InputObject
returns-in_ok-add_inputs-in-InputObject c =
    rw c.in-InputObject.is
    (input_adds (lists_in c.args.self.now) c.args.number c.in-InputObject.fields.items c.add_inputs.new.table.names c.add_inputs.new.table.values.items
    (cc (c.in_ok-add_inputs-in-InputObject.ensures.names, c.deref-in-InputObject.ensures.value)) (cc (c.in_ok-add_inputs-in-InputObject.ensures.places, c.deref-in-InputObject.ensures.value)))
