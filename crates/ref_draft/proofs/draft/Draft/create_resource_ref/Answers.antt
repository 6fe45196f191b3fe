use Rattle.ref_draft.proofs.draft.Draft.create_resource_ref.Goals as goal

pub returns : goal.returns
returns c = record { value = c.new.ensures.value }
