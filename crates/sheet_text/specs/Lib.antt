-- SPDX-License-Identifier: Apache-2.0
pub mod Fields
pub mod Find
pub mod Parse
