mod ReasonLaws
mod ChainLaws
