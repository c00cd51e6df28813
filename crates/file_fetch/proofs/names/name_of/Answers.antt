use Rattle.std.proofs.Common.{◌∙◌}
use Rattle.file_fetch.proofs.Urls.{url_from}
use Rattle.file_fetch.proofs.names.name_of.Goals as goal

pub returns-in-Ok-clause-url : goal.returns-in-Ok-clause-url
returns-in-Ok-clause-url c =
    url_from c.args.plan.now c.args.key.now _ _ _ _ _ (c.as_bytes.ensures.value ∙ c.address_of-address.ensures)
    c.as_bytes-2.ensures c.urls_are_bytes.ensures c.address_of-address.ensures c.as_str.ensures c.in-Ok.ensures.name
    c.requires
